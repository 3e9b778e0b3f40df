use Rattle.std.proofs.Common.{Contains, refl, subst}
use Rattle.ps_saturate.proofs.Stepping.{choice_member}
use Rattle.ps_saturate.specs.inner.Trials.{atoms_of, pointed_to}
use Rattle.ps_saturate.proofs.walk.has_atom.Goals as goal

pub returns-then-is_same : goal.returns-then-is_same
returns-then-is_same c = (
  λ _. subst (λ q. Contains (atoms_of (pointed_to c.args.set.now)) q) (c.if-is_same.ensures.0 refl) (choice_member c.args.set.now c.loop-choice.choice-index c.choice-item.result c.loop-choice-test.true c.choice-item.is),
  λ _. refl,
)
