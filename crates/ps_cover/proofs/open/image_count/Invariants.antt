use Rattle.std.proofs.Common.{◌≤◌, ◌-◌, ◌^◌}
use Rattle.ps_cover.proofs.open.image_count.Given as goal

abbrev pub invariant-loop-image : goal.invariant-loop-image
invariant-loop-image l = l.from ≤ 2 ^ 32

abbrev pub decreases-loop-image : goal.decreases-loop-image
decreases-loop-image l = 2 ^ 32 - l.from
