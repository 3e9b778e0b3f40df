-- Values of digits that are read one by one, up to a bound.
use Rattle.std.specs.Prelude.{ℕ, ◌+◌, ◌*◌, Bool, ◌&&◌, ◌||◌, not, List, [], ◌∷◌, length, slice_index, Option, Some, None, option_and_then, nat_lt, ◌==◌, if◌then◌else◌}
use Rattle.std.specs.Char.{digit_value}
use Rattle.std.specs.Str.Parse.{digits_value}
use Rattle.ps_lines.specs.Decimal.{are_digits, counts_as_decimal}
use Rattle.ps_lines.specs.declared.form_name.FormName.{FormName}
use Rattle.ps_lines.specs.declared.form_name.FormName.TheVariants as name

-- Whether there is a first byte, and it is no leading zero.
abbrev pub begins_canonical : List ℕ → Bool
begins_canonical field = nat_lt 0 (length field) && (not (slice_index field 0 == 48) || length field == 1)

-- The value with one digit more at its end, if the byte is a digit and the value stays below the bound.
abbrev pub value_with : ℕ → ℕ → ℕ → Option ℕ
value_with most value b = if nat_lt (digit_value b) 10 && nat_lt (value * 10 + digit_value b) most then Some (value * 10 + digit_value b) else None

-- The value with these digits more at its end.
abbrev pub value_from : ℕ → ℕ → List ℕ → Option ℕ
value_from most value [] = Some value
value_from most value (b ∷ bs) = option_and_then (λ next. value_from most next bs) (value_with most value b)

-- The value of digits, if it is below the bound.
abbrev pub value_below : ℕ → List ℕ → Option ℕ
value_below most bs = if are_digits bs && nat_lt (digits_value 10 bs) most then Some (digits_value 10 bs) else None

-- What is wrong with a field that isn't a decimal of its type.
abbrev pub decimal_fault : List ℕ → FormName
decimal_fault field = if counts_as_decimal field then name.Number else name.Field
