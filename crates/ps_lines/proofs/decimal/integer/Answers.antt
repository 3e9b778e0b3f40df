use Rattle.std.proofs.Common.{sym, ◌∙◌}
use Rattle.std.proofs.Common.{rules}
use Rattle.std.proofs.lemmas.Int.{to_z-of_z}
use Rattle.std.specs.Int.{w128}
use Rattle.std.specs.Prelude.{FitsSigned}
use Rattle.ps_lines.specs.Decimal.{i128_of}
use Rattle.ps_lines.proofs.Decimals.{integer_is, leaf_lacks}
use Rattle.ps_lines.proofs.decimal.integer.Goals as goal

pub returns-in-Some : goal.returns-in-Some
returns-in-Some c = let n : FitsSigned w128 c.in-Some.n = search rules in rw to_z-of_z (sym (integer_is c.args.field.now c.in-Some.n (sym c.read_i128.ensures.function ∙ c.in-Some.is)))

pub returns-in-None : goal.returns-in-None
returns-in-None c = rw c.decimal_fault.ensures (sym (leaf_lacks i128_of c.args.field.now (sym c.read_i128.ensures.function ∙ c.in-None.is)))
