use Rattle.ps_lines.proofs.Forms.{is_spelled, is_read}
use Rattle.ps_trace_text.specs.TraceReading.{trace_at}
use Rattle.ps_trace_text.specs.TraceSpelling.{trace_lines, TraceFits}
use Rattle.ps_trace_text.proofs.TraceLaws.{trace_is_format}
use Rattle.ps_trace_text.proofs.trace_reading.read_trace.Goals as goal

pub returns-clause-found : goal.returns-clause-found
returns-clause-found c = is_spelled trace_at trace_lines TraceFits trace_is_format (λ x. x) c.args.first c.args.bytes.now c.whole.result c.whole.ensures

pub returns-clause-only : goal.returns-clause-only
returns-clause-only c = is_read trace_at trace_lines TraceFits trace_is_format (λ x. x) c.args.first c.args.bytes.now c.whole.result c.whole.ensures
