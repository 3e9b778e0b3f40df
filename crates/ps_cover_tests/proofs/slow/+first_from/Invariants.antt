use Rattle.std.proofs.Common.{◌≤◌, ◌-◌, ◌^◌}
use Rattle.ps_cover.specs.inner.Rests.{large_of}
use Rattle.ps_cover_tests.proofs.Trying.{NoneBelow}
use Rattle.ps_cover_tests.proofs.slow.+first_from.Given as goal

abbrev pub decreases-first_from : goal.decreases-first_from
decreases-first_from l = l.left

abbrev pub decreases-loop-image : goal.decreases-loop-image
decreases-loop-image l = 2 ^ 32 - l.from

-- no image below begins a covering
abbrev pub invariant-loop-image : goal.invariant-loop-image
invariant-loop-image l = record {
  none : NoneBelow l.small (large_of l.at l.atoms) l.threads l.to l.left l.from;
  fits : l.from ≤ 2 ^ 32;
}
