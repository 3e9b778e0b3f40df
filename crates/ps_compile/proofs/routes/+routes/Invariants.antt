use Rattle.std.proofs.Common.{◌≡◌, map, drop}
use Rattle.ps_compile.specs.inner.Counts.{paths_of}
use Rattle.ps_compile.specs.inner.Drafts.{route_of}
use Rattle.ps_compile.specs.inner.Weights.{weight, weight_of}
use Rattle.ps_compile.proofs.routes.+routes.Given as goal

abbrev pub decreases-stmt_routes : goal.decreases-stmt_routes
decreases-stmt_routes l = weight l.kind.now

abbrev pub decreases-block_routes : goal.decreases-block_routes
decreases-block_routes l = weight_of l.block.now

abbrev pub invariant-block_routes-loop-i : goal.invariant-block_routes-loop-i
invariant-block_routes-loop-i l = l.all.items ≡ map route_of (paths_of (drop l.i l.block))
