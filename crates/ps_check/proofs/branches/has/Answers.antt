use Rattle.std.proofs.Common.{◌≢◌, refl, subst, Contains}
use Rattle.std.proofs.lemmas.Bool.{both_ways, false≢true}
use Rattle.ps_atom.specs.declared.atom.Atom.{Atom}
use Rattle.ps_step.proofs.Seen.{all_seen, one_more, read_in}
use Rattle.ps_check.proofs.branches.has.Goals as goal

pub returns-then-is_same : goal.returns-then-is_same
returns-then-is_same c = (
  (λ h. subst (λ (q : Atom). Contains c.args.atoms.now q) (c.is_same.ensures.0 c.if-is_same.true) (read_in c.args.atoms.now c.loop-other.other-index c.other-item.result c.loop-other-test.true c.other-item.is)),
  (λ h. refl),
)

pub loop-other-preserved : goal.loop-other-preserved
loop-other-preserved c =
    one_more (λ (q : Atom). q ≢ c.args.atom.now) c.args.atoms.now c.loop-other.other-index c.other-item.result c.loop-other-test.true
    (subst (λ (q : Atom). q ≢ c.args.atom.now) c.other-item.is (λ e. both_ways c.is_same.result c.if-is_same.false (c.is_same.ensures.1 e))) c.loop-other.invariant

pub returns : goal.returns
returns c = (
  (λ h. absurd (false≢true h)),
  (λ h. absurd (all_seen (λ (q : Atom). q ≢ c.args.atom.now) c.args.atoms.now c.loop-other.other-index c.loop-other-test.false c.loop-other.invariant c.args.atom.now h refl)),
)
