use Rattle.std.proofs.Common.{take}
use Rattle.std.specs.List.{AllZip}
use Rattle.ps_hit.specs.Hitting.{numbers_of}
use Rattle.ps_hit.specs.inner.Covers.{IsCover}
use Rattle.ps_hit.proofs.cover.covers_of.Given as goal

abbrev pub invariant-loop-set : goal.invariant-loop-set
invariant-loop-set l = AllZip (IsCover l.chosen) (numbers_of (take l.set-index l.sets)) l.covers.items
