use Rattle.std.proofs.Common.{refl, subst, Contains}
use Rattle.std.proofs.lemmas.Bool.{both_ways, false≢true}
use Rattle.ps_atom.specs.declared.atom.Atom.{Atom}
use Rattle.ps_step.proofs.Seen.{all_seen, one_more, read_in}
use Rattle.ps_check.proofs.branches.meets.Goals as goal

pub returns-then-has : goal.returns-then-has
returns-then-has c = (
  (λ h. (c.atom-item.result, c.has.ensures.0 c.if-has.true, read_in c.args.set.now c.loop-atom.atom-index c.atom-item.result c.loop-atom-test.true c.atom-item.is)),
  (λ m. refl),
)

pub loop-atom-preserved : goal.loop-atom-preserved
loop-atom-preserved c =
    one_more (λ (q : Atom). ¬ Contains c.args.atoms.now q) c.args.set.now c.loop-atom.atom-index c.atom-item.result c.loop-atom-test.true
    (subst (λ (q : Atom). ¬ Contains c.args.atoms.now q) c.atom-item.is (λ h. both_ways c.has.result c.if-has.false (c.has.ensures.1 h))) c.loop-atom.invariant

pub returns : goal.returns
returns c = (
  (λ h. absurd (false≢true h)),
  (λ m. absurd (all_seen (λ (q : Atom). ¬ Contains c.args.atoms.now q) c.args.set.now c.loop-atom.atom-index c.loop-atom-test.false c.loop-atom.invariant m.0 m.2 m.1)),
)
