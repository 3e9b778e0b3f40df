use Rattle.ps_file.specs.Reading.{proof_at}
use Rattle.ps_file.specs.Spelling.{proof_lines, ProofFits}
use Rattle.ps_file.proofs.Laws.{proof_is_format}
use Rattle.ps_file.proofs.reading.read_proof.Goals as goal
use Rattle.ps_lines.proofs.Forms.{is_spelled, is_read}

pub returns-clause-found : goal.returns-clause-found
returns-clause-found c = is_spelled proof_at proof_lines ProofFits proof_is_format (λ x. x) c.args.first c.args.bytes.now c.whole.result c.whole.ensures

pub returns-clause-only : goal.returns-clause-only
returns-clause-only c = is_read proof_at proof_lines ProofFits proof_is_format (λ x. x) c.args.first c.args.bytes.now c.whole.result c.whole.ensures
