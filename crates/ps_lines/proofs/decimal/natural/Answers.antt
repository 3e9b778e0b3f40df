use Rattle.std.proofs.Common.{sym, ◌∙◌}
use Rattle.ps_lines.specs.Decimal.{u128_of}
use Rattle.ps_lines.proofs.Decimals.{natural_is, leaf_lacks}
use Rattle.ps_lines.proofs.decimal.natural.Goals as goal

pub returns-in-Some : goal.returns-in-Some
returns-in-Some c = sym (natural_is c.args.field.now c.in-Some.n (sym c.read_u128.ensures.function ∙ c.in-Some.is))

pub returns-in-None : goal.returns-in-None
returns-in-None c = rw c.decimal_fault.ensures (sym (leaf_lacks u128_of c.args.field.now (sym c.read_u128.ensures.function ∙ c.in-None.is)))
