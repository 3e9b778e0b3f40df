use Rattle.std.proofs.Common.{◌-◌}
use Rattle.std.specs.Prelude.{codes}
use Rattle.ps_lines.specs.Reading.{while_at}
use Rattle.ps_lines.proofs.Loop.{Whiles}
use Rattle.ps_trace_text.specs.WitnessReading.{step_at}
use Rattle.ps_trace_text.proofs.witness_reading.take_steps.Given as goal

abbrev pub invariant-loop : goal.invariant-loop
invariant-loop l = Whiles (codes "step") step_at l.steps (l.limit - l.counter) l.reader (while_at (codes "step") step_at l.limit l.fn.reader)
