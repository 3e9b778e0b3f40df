use Rattle.std.proofs.Common.{take}
use Rattle.ps_term.specs.Factors.{AreDivided}
use Rattle.ps_term.proofs.tightening.divided.Given as goal

abbrev pub invariant-loop-pair : goal.invariant-loop-pair
invariant-loop-pair l = AreDivided l.factor (take l.pair-index l.pairs) l.list.items
