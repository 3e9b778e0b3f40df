-- What fields are read as variables and pairs, and a term from the fields of a line.
use Rattle.std.specs.Prelude.{ℕ, ℤ, pos, Bool, true, false, ◌&&◌, List, drop, slice_index, Option, Some, None, option_map, option_and_then, Result, Ok, Err, ◌==◌, nat_le, if◌then◌else◌}
use Rattle.std.specs.List.{list_any}
use Rattle.std.specs.Ordering.{int_eq}
use Rattle.ps_term.specs.declared.var.Var.{Var}
use Rattle.ps_term.specs.declared.var.Var.TheVariants.{Global, Local}
use Rattle.ps_term.specs.declared.term.Term.{Term}
use Rattle.ps_term.specs.Var.{var_lt}
use Rattle.ps_lines.specs.declared.form_name.FormName.{FormName}
use Rattle.ps_lines.specs.declared.form_name.FormName.TheVariants.{Field, Number, Order}
use Rattle.ps_lines.specs.Decimal.{counts_as_decimal, u32_of, i128_of}
use Rattle.ps_lines.specs.Parts.{cut_at}
use Rattle.ps_term_text.specs.declared.limits.TheConstants.{MOST_NUMBER}
use Rattle.ps_lines.specs.Reading.{Read, leaf_at, list_at, integer}
use Rattle.ps_lines.specs.Steps.{◌>>=◌}

-- ---- variables

-- Whether both parts count as decimals.
abbrev pub looks_local : Option (List ℕ × List ℕ) → Bool
looks_local None = false
looks_local (Some parts) = counts_as_decimal parts.0 && counts_as_decimal parts.1

-- Whether a field is of a variable's form, whatever its decimals are.
abbrev pub looks_variable : List ℕ → Bool
looks_variable field =
    if slice_index field 0 == 103 then counts_as_decimal (drop 1 field)
    else (if slice_index field 0 == 108 then looks_local (cut_at 64 (drop 1 field)) else false)

-- A number that a variable may have.
abbrev pub in_range : ℕ → Option ℕ
in_range n = if nat_le n MOST_NUMBER then Some n else None

-- The number of a variable that a field is.
abbrev pub number_of : List ℕ → Option ℕ
number_of field = option_and_then in_range (u32_of field)

-- The local of its number and its slot.
abbrev pub local_of : Option (List ℕ × List ℕ) → Option Var
local_of None = None
local_of (Some parts) = option_and_then (λ n. option_map (λ s. Local s n) (number_of parts.1)) (number_of parts.0)

-- The variable of a field of its form.
abbrev pub variable_in_field : List ℕ → Option Var
variable_in_field field = if slice_index field 0 == 103 then option_map Global (number_of (drop 1 field)) else local_of (cut_at 64 (drop 1 field))

-- ---- pairs

-- The pair of a coefficient and a variable, where both are in range.
abbrev pub pair_of : List ℕ × List ℕ → Option (Var × ℤ)
pair_of parts = option_and_then (λ c. option_map (λ x. (x, c)) (variable_in_field parts.1)) (i128_of parts.0)

-- The variable comes after that of the pair before, if there is one.
abbrev pub comes_after : Option (Var × ℤ) → Var → Bool
comes_after None x = true
comes_after (Some before) x = var_lt before.0 x

-- A pair may stand where its coefficient isn't 0 and the variables ascend.
abbrev pub ordered : Option (Var × ℤ) → Option (Var × ℤ) → Result (Var × ℤ) FormName
ordered before None = Err Number
ordered before (Some p) = if int_eq p.1 (pos 0) then Err Order else (if comes_after before p.0 then Ok p else Err Order)

-- The pair of the parts round a `*`, after the one before it.
abbrev pub pair_from : Option (Var × ℤ) → Option (List ℕ × List ℕ) → Result (Var × ℤ) FormName
pair_from before None = Err Field
pair_from before (Some parts) = if counts_as_decimal parts.0 && looks_variable parts.1 then ordered before (pair_of parts) else Err Field

-- The pair that a field is, after the one before it.
abbrev pub pair_after : Option (Var × ℤ) → List ℕ → Result (Var × ℤ) FormName
pair_after before field = pair_from before (cut_at 42 field)

-- ---- terms

-- Whether a field has a `*`. The first field of a term without one is its constant.
abbrev pub has_star : List ℕ → Bool
has_star field = list_any (λ b. b == 42) field

-- Pairs as long as fields have a `*`, and then the constant.
unfoldable pub term_at : Read Term
term_at at = do
  pairs ← list_at has_star pair_after (λ _ p. Some p) None at
  constant ← leaf_at integer pairs.1
  Ok (record { pairs = pairs.0; constant = constant.0 }, constant.1)
