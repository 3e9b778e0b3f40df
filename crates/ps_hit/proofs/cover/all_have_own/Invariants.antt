use Rattle.std.proofs.Common.{take, All}
use Rattle.ps_hit.specs.inner.Covers.{HasOwn}
use Rattle.ps_hit.proofs.cover.all_have_own.Given as goal

abbrev pub invariant-loop-number : goal.invariant-loop-number
invariant-loop-number l = All (HasOwn l.covers) (take l.number-index l.numbers)
