use Rattle.std.proofs.Common.{drop, map}
use Rattle.std.specs.Prelude.{slice_index_or}
use Rattle.ps_trace.proofs.Walking.{IsWalking}
use Rattle.ps_trace.specs.Reaches.{step_pair}
use Rattle.ps_trace.specs.Replay.{entered}
use Rattle.ps_trace.specs.inner.Trying.{world_from}
use Rattle.ps_trace.proofs.replaying.run_steps.Given as goal

abbrev pub invariant-loop-n : goal.invariant-loop-n
invariant-loop-n l =
    IsWalking l.graph (map step_pair l.steps) (entered (slice_index_or l.graph.entries 0 0) l.fn.state) (world_from l.walk.runner.globals l.walk.seats.items)
    (map step_pair (drop l.n l.steps)) l.failed
