use Rattle.ps_lines.proofs.Digits.{u128_answer}
use Rattle.ps_lines.proofs.decimal.read_u128.Goals as goal

pub returns-clause-canonical : goal.returns-clause-canonical
returns-clause-canonical c = rw c.number_of.ensures (u128_answer c.args.field.now)
