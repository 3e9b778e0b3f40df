use Rattle.std.proofs.Common.{take}
use Rattle.ps_term.specs.inner.Common.{IsCommonFactor}
use Rattle.ps_term.proofs.tightening.common_factor.Given as goal

abbrev pub invariant-loop-pair : goal.invariant-loop-pair
invariant-loop-pair l = IsCommonFactor (take l.pair-index l.pairs) l.factor
