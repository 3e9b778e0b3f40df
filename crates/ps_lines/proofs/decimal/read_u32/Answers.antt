use Rattle.ps_lines.proofs.Digits.{u32_answer}
use Rattle.ps_lines.proofs.decimal.read_u32.Goals as goal

pub returns-clause-canonical : goal.returns-clause-canonical
returns-clause-canonical c = rw c.short_number_of.ensures (u32_answer c.args.field.now)
