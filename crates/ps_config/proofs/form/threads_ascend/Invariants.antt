use Rattle.ps_config.proofs.Forming.{AscendTo}
use Rattle.ps_config.proofs.form.threads_ascend.Given as goal

abbrev pub invariant-loop-place : goal.invariant-loop-place
invariant-loop-place l = AscendTo l.at l.place
