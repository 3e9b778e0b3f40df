use Rattle.ps_lines.proofs.Forms.{is_spelled, is_read}
use Rattle.ps_rows.specs.Reading.{claim_at}
use Rattle.ps_rows.specs.Spelling.{claim_lines, ClaimHasSpelling}
use Rattle.ps_rows.proofs.Laws.{claim_is_format}
use Rattle.ps_rows.proofs.reading.read_rows.Goals as goal

pub returns-clause-found : goal.returns-clause-found
returns-clause-found c = is_spelled claim_at claim_lines ClaimHasSpelling claim_is_format (λ x. x) c.args.first c.args.bytes.now c.whole.result c.whole.ensures

pub returns-clause-only : goal.returns-clause-only
returns-clause-only c = is_read claim_at claim_lines ClaimHasSpelling claim_is_format (λ x. x) c.args.first c.args.bytes.now c.whole.result c.whole.ensures
