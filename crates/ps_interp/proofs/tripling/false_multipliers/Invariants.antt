use Rattle.std.proofs.Common.{◌≡◌, ◌∷◌, take}
use Rattle.ps_interp.specs.Weights.{zeros}
use Rattle.ps_interp.proofs.tripling.false_multipliers.Given as goal

abbrev pub invariant-loop-row : goal.invariant-loop-row
invariant-loop-row l = l.lambda.items ≡ 1 ∷ zeros (take l._row-index l.rows)
