use Rattle.std.proofs.Common.{◌≡◌, ◌++◌, take}
use Rattle.ps_interp.specs.Weights.{zeros}
use Rattle.ps_interp.proofs.initial.push_zeros.Given as goal

abbrev pub invariant-loop-row : goal.invariant-loop-row
invariant-loop-row l = l.lambda.items ≡ l.fn.lambda.items ++ zeros (take l._row-index l.setting.init_each)
