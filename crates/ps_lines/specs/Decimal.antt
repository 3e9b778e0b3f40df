-- Canonical decimals, as relations between a field and a number, and as functions of the field.
use Rattle.std.specs.Prelude.{◌≡◌, ℕ, ◌+◌, ◌-◌, ◌<◌, ◌^◌, Bool, true, false, ◌&&◌, ◌||◌, not, List, [], ◌∷◌, length, drop, slice_index, Option, Some, None, option_and_then, nat_lt, nat_le, ◌==◌, ℤ, pos, negsuc, if◌then◌else◌}
use Rattle.std.specs.Char.{digit_value}
use Rattle.std.specs.Str.Parse.{digits_value, AllDigits}

-- The field is the canonical decimal of n: digits of this value, and no leading zero but in `0` itself.
pub record IsDecimal (field : List ℕ) (n : ℕ) : Type 0 where
  pub nonempty : 0 < length field
  pub digits : AllDigits 10 field
  pub no_leading_zero : slice_index field 0 ≡ 48 → length field ≡ 1
  pub value : digits_value 10 field ≡ n

-- The field is the canonical decimal of z: `-` stands before a negative number, and nothing before another.
abbrev pub IsSignedDecimal : List ℕ → ℤ → Type 0
IsSignedDecimal field (pos n) = IsDecimal field n
IsSignedDecimal field (negsuc n) = (slice_index field 0 ≡ 45) × IsDecimal (drop 1 field) (n + 1)

-- Whether each byte is a digit.
abbrev pub are_digits : List ℕ → Bool
are_digits [] = true
are_digits (b ∷ bs) = nat_lt (digit_value b) 10 && are_digits bs

-- Whether the bytes are a run of digits, of at least one.
abbrev pub is_run : List ℕ → Bool
is_run [] = false
is_run bs = are_digits bs

-- Whether the bytes are a run of digits, with or without `-` before it.
abbrev pub counts_as_decimal : List ℕ → Bool
counts_as_decimal field = is_run (if slice_index field 0 == 45 then drop 1 field else field)

-- Whether the bytes are a run of digits without a leading zero.
abbrev pub is_canonical : List ℕ → Bool
is_canonical field = is_run field && (not (slice_index field 0 == 48) || length field == 1)

-- The number below 2 ^ 128 of which the field is the canonical decimal.
abbrev pub u128_of : List ℕ → Option ℕ
u128_of field = if is_canonical field && nat_lt (digits_value 10 field) (2 ^ 128) then Some (digits_value 10 field) else None

-- The number, if it is below 2 ^ 32.
abbrev pub narrow : ℕ → Option ℕ
narrow n = if nat_lt n (2 ^ 32) then Some n else None

-- The number below 2 ^ 32 of which the field is the canonical decimal.
abbrev pub u32_of : List ℕ → Option ℕ
u32_of field = option_and_then narrow (u128_of field)

-- The number as a signed one, if it is in range.
abbrev pub positive_of : ℕ → Option ℤ
positive_of n = if nat_lt n (2 ^ 127) then Some (pos n) else None

-- Minus the number, if it isn't 0 and minus it is in range.
abbrev pub negative_of : ℕ → Option ℤ
negative_of n = if nat_lt 0 n && nat_le n (2 ^ 127) then Some (negsuc (n - 1)) else None

-- The signed number of 128 bits of which the field is the canonical decimal.
abbrev pub i128_of : List ℕ → Option ℤ
i128_of field = if slice_index field 0 == 45 then option_and_then negative_of (u128_of (drop 1 field)) else option_and_then positive_of (u128_of field)
