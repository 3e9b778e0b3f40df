use Rattle.std.proofs.Common.{refl}
use Rattle.std.proofs.lemmas.Bool.{false≢true}
use Rattle.ps_config.proofs.Forming.{ascend_all, ascend_not}
use Rattle.ps_config.proofs.form.threads_ascend.Goals as goal

pub returns-then-at-place : goal.returns-then-at-place
returns-then-at-place c = ((λ e. absurd (false≢true e)), (λ up. absurd (ascend_not c.args.at.now c.loop-place.place c.loop-place.auto.place c.loop-place-test.true c.if-at-place.true up)))

pub returns : goal.returns
returns c = ((λ e. ascend_all c.args.at.now c.loop-place.place c.loop-place.invariant c.loop-place-test.false), (λ up. refl))
