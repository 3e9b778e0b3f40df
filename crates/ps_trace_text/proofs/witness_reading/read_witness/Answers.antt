use Rattle.ps_lines.proofs.Forms.{is_spelled, is_read}
use Rattle.ps_trace_text.specs.WitnessReading.{witness_at}
use Rattle.ps_trace_text.specs.WitnessSpelling.{witness_lines, WitnessFits}
use Rattle.ps_trace_text.proofs.WitnessLaws.{witness_is_format}
use Rattle.ps_trace_text.proofs.witness_reading.read_witness.Goals as goal

pub returns-clause-found : goal.returns-clause-found
returns-clause-found c = is_spelled witness_at witness_lines WitnessFits witness_is_format (λ x. x) c.args.first c.args.bytes.now c.whole.result c.whole.ensures

pub returns-clause-only : goal.returns-clause-only
returns-clause-only c = is_read witness_at witness_lines WitnessFits witness_is_format (λ x. x) c.args.first c.args.bytes.now c.whole.result c.whole.ensures
