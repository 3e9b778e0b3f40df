use Rattle.std.proofs.Common.{refl, subst}
use Rattle.std.proofs.lemmas.Bool.{both_ways, false≢true}
use Rattle.ps_atom.specs.declared.atom.Atom.{Atom}
use Rattle.ps_triple.specs.Entries.{HasInitial}
use Rattle.ps_step.proofs.Seen.{one_more, all_seen, read_in}
use Rattle.ps_step.proofs.accepted.are_uninitial.Goals as goal

pub returns-then-is_initial : goal.returns-then-is_initial
returns-then-is_initial g c = (
  (λ h. absurd (false≢true h)),
  (λ without. absurd (without c.atom-item.result (read_in c.args.atoms.now c.loop-atom.atom-index c.atom-item.result c.loop-atom-test.true c.atom-item.is) (c.is_initial.ensures.0 c.if-is_initial.true))),
)

pub loop-atom-preserved : goal.loop-atom-preserved
loop-atom-preserved g c =
    one_more (λ (q : Atom). ¬ HasInitial (g.B.Shown.entries c.args.basis.now) q.predicate) c.args.atoms.now c.loop-atom.atom-index c.atom-item.result c.loop-atom-test.true
    (subst (λ (q : Atom). ¬ HasInitial (g.B.Shown.entries c.args.basis.now) q.predicate) c.atom-item.is (λ h. both_ways c.is_initial.result c.if-is_initial.false (c.is_initial.ensures.1 h))) c.loop-atom.invariant

pub returns : goal.returns
returns g c = ((λ h q i. all_seen (λ (q : Atom). ¬ HasInitial (g.B.Shown.entries c.args.basis.now) q.predicate) c.args.atoms.now c.loop-atom.atom-index c.loop-atom-test.false c.loop-atom.invariant q i), (λ h. refl))
