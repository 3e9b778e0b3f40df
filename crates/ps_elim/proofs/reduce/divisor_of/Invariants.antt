use Rattle.std.proofs.Common.{take}
use Rattle.ps_term.specs.inner.Common.{IsCommonFactor}
use Rattle.ps_elim.proofs.reduce.divisor_of.Given as goal

abbrev pub invariant-loop-pair : goal.invariant-loop-pair
invariant-loop-pair l = IsCommonFactor (take l.pair-index l.pairs) l.divisor
