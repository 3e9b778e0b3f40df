use Rattle.std.proofs.Common.{take}
use Rattle.ps_hit.specs.inner.Covers.{IsCover}
use Rattle.ps_hit.proofs.cover.cover_of.Given as goal

abbrev pub invariant-loop-number : goal.invariant-loop-number
invariant-loop-number l = IsCover l.chosen (take l.number-index l.set) l.cover
