use Rattle.std.proofs.Common.{◌≤◌, ◌-◌, ◌*◌, ◌+◌, ◌^◌, length, get_or}
use Rattle.ps_cover.specs.inner.Rests.{large_of, HaveFailed}
use Rattle.ps_cover.proofs.Trying.{NoneBelow}
use Rattle.ps_cover.proofs.search.+search.Given as goal

abbrev pub decreases-search : goal.decreases-search
decreases-search l = length l.left.now * 2 + 1

abbrev pub decreases-attempt : goal.decreases-attempt
decreases-attempt l = length l.left.now * 2

abbrev pub decreases-search-loop-image : goal.decreases-search-loop-image
decreases-search-loop-image l = 2 ^ 32 - l.from

abbrev pub invariant-search-loop-image : goal.invariant-search-loop-image
invariant-search-loop-image l = record {
  none : NoneBelow l.small (large_of l.at l.atoms) l.partial (get_or l.left 0 0) l.from;
  failed : HaveFailed l.small (large_of l.at l.atoms) l.partial (get_or l.left 0 0) l.failed;
  fits : l.from ≤ 2 ^ 32;
}
