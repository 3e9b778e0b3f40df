use Rattle.ps_trace_text.proofs.ThreadLines.{Lines}
use Rattle.ps_trace_text.specs.WitnessReading.{all_locals_at}
use Rattle.std.specs.Prelude.{None}
use Rattle.ps_trace_text.proofs.witness_reading.take_all_locals.Given as goal

abbrev pub invariant-loop-thread : goal.invariant-loop-thread
invariant-loop-thread l = Lines l.list.items l.count l.thread l.before l.reader (all_locals_at None l.count l.fn.reader)
