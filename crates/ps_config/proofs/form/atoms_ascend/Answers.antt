use Rattle.std.proofs.Common.{refl}
use Rattle.std.proofs.lemmas.Bool.{false≢true}
use Rattle.ps_config.proofs.Forming.{atoms_all, neighbours_not}
use Rattle.ps_config.proofs.form.atoms_ascend.Goals as goal

pub returns-then-not-is_below : goal.returns-then-not-is_below
returns-then-not-is_below c = (
  (λ e. absurd (false≢true e)),
  (λ up. absurd (neighbours_not c.args.atoms.now c.loop-place.place c.index-atoms-place.result c.index-atoms-place-in-loop-place.result c.is_below.result
      c.index-atoms-place.is c.index-atoms-place-in-loop-place.is c.loop-place.auto.place c.loop-place-test.true c.is_below.ensures.1 c.if-not-is_below.true up)),
)

pub returns : goal.returns
returns c = ((λ e. atoms_all c.args.atoms.now c.loop-place.place c.loop-place.invariant c.loop-place-test.false), (λ up. refl))
