use Rattle.ps_lines.proofs.Digits.{i128_answer}
use Rattle.ps_lines.proofs.decimal.read_i128.Goals as goal

pub returns-clause-canonical : goal.returns-clause-canonical
returns-clause-canonical c = rw c.signed_number_of.ensures (i128_answer c.args.field.now)
