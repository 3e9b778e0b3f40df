-- Reading a text from left to right, with the first fault that is met.
use Rattle.std.specs.Prelude.{◌≡◌, ℕ, zero, suc, ◌+◌, Bool, false, ◌&&◌, List, [], ◌∷◌, Option, Some, None, ok_or, Result, Ok, Err, nat_le, if◌then◌else◌, ℤ}
use Rattle.std.specs.Str.{bytes_eq}
use Rattle.ps_lines.specs.declared.form_name.FormName.{FormName}
use Rattle.ps_lines.specs.declared.form_name.FormName.TheVariants as name
use Rattle.ps_lines.specs.declared.form_fault.FormFault.{FormFault}
use Rattle.ps_lines.specs.declared.form_end.FormEnd.{FormEnd}
use Rattle.ps_lines.specs.declared.form_end.FormEnd.TheVariants.{Fault, Memory}
use Rattle.ps_lines.specs.Tokens.{LinePart, Field, Newline, line_parts, has_newline}
use Rattle.ps_lines.specs.Steps.{Reading, ◌>>=◌}
use Rattle.ps_lines.specs.Decimal.{counts_as_decimal, u32_of, u128_of, i128_of}

-- A place in a text: the line's number, the next field's number, and the tokens that are left.
pub record Position : Type 0 where
  pub line : ℕ
  pub field : ℕ
  pub tokens : List LinePart

-- The start of a text whose lines count from `first`.
abbrev pub text_start : ℕ → List ℕ → Position
text_start first bytes = record { line = first; field = 1; tokens = line_parts bytes }

-- A reading function gives what it read and the place after it, or the first fault.
abbrev pub Read : Type 0 → Type 0
Read A = Reading Position FormFault A

-- A fault at the next field.
abbrev pub fault_at : Position → FormName → FormFault
fault_at at what = record { line = at.line; field = at.field; what = what }

-- A fault of the line as a whole.
abbrev pub line_fault : Position → FormName → FormFault
line_fault at what = record { line = at.line; field = 0; what = what }

-- ---- steps

-- The next field, from a line's number, the field's, and the tokens ahead.
abbrev pub field_from : ℕ → ℕ → List LinePart → Result (List ℕ × Position) FormFault
field_from line field (Field f ∷ ts) = Ok (f, record { line = line; field = field + 1; tokens = ts })
field_from line field ts = Err (record { line = line; field = field; what = name.Count })

-- The next field of the line: `count` there where the line has none.
abbrev pub field_at : Read (List ℕ)
field_at at = field_from at.line at.field at.tokens

-- What a field is read as, or the fault at its place.
abbrev pub fault_placed : {A : Type 0} → ℕ → ℕ → Result A FormName → Result A FormFault
fault_placed line field (Ok x) = Ok x
fault_placed line field (Err what) = Err (record { line = line; field = field; what = what })

-- The next field, as a value.
unfoldable pub leaf_at : {A : Type 0} → (List ℕ → Result A FormName) → Read A
leaf_at leaf at = do
  f ← field_at at
  x ← fault_placed at.line at.field (leaf f.0)
  Ok (x, f.1)

-- A field that is this word.
abbrev pub word_leaf : List ℕ → List ℕ → Result (Unit {0}) FormName
word_leaf word field = if bytes_eq field word then Ok tt else Err name.Word

-- The next field is this word.
abbrev pub word_at : List ℕ → Read (Unit {0})
word_at word = leaf_at (word_leaf word)

-- A line begins, and its first field is this word. A line that isn't ended, or isn't there, is `cut`.
unfoldable pub line_at : List ℕ → Read (Unit {0})
line_at word at = if has_newline at.tokens then word_at word at else Err (line_fault at name.Cut)

-- The end of a line, from the line's number, the next field's, and the tokens ahead.
abbrev pub end_from : ℕ → ℕ → List LinePart → Result (Unit {0} × Position) FormFault
end_from line field (Newline ∷ ts) = Ok (tt, record { line = line + 1; field = 1; tokens = ts })
end_from line field ts = Err (record { line = line; field = field; what = name.Count })

-- The line ends: `count` at the next field where there is one.
abbrev pub end_at : Read (Unit {0})
end_at at = end_from at.line at.field at.tokens

-- A line that is this word alone.
unfoldable pub only_at : List ℕ → Read (Unit {0})
only_at word at = do
  w ← line_at word at
  end_at w.1

-- The end of the text, from the line's number and the tokens ahead.
abbrev pub done_from : ℕ → List LinePart → Result (Unit {0}) FormFault
done_from line [] = Ok tt
done_from line (t ∷ ts) = Err (record { line = line; field = 0; what = name.Word })

-- The text ends: `word` at the line that follows where one does, ended or not.
abbrev pub done_at : Position → Result (Unit {0}) FormFault
done_at at = done_from at.line at.tokens

-- ---- decimals

-- A field that counts as a decimal, and is one of a type.
abbrev pub decimal_leaf : {A : Type 0} → (List ℕ → Option A) → List ℕ → Result A FormName
decimal_leaf of field = if counts_as_decimal field then ok_or (of field) name.Number else Err name.Field

-- A decimal of 32 bits.
abbrev pub natural32 : List ℕ → Result ℕ FormName
natural32 = decimal_leaf u32_of

-- A decimal of 128 bits.
abbrev pub natural : List ℕ → Result ℕ FormName
natural = decimal_leaf u128_of

-- A signed decimal of 128 bits.
abbrev pub integer : List ℕ → Result ℤ FormName
integer = decimal_leaf i128_of

-- A number that is within its limit.
abbrev pub within_limit : ℕ → Result ℕ FormName → Result ℕ FormName
within_limit limit (Ok n) = if nat_le n limit then Ok n else Err name.Limit
within_limit limit (Err what) = Err what

-- A stated count: a decimal of 32 bits, at most its limit.
abbrev pub count : ℕ → List ℕ → Result ℕ FormName
count limit field = within_limit limit (natural32 field)

-- A line of a word and a stated count.
unfoldable pub header_at : List ℕ → ℕ → Read ℕ
header_at word limit at = do
  w ← line_at word at
  n ← leaf_at (count limit) w.1
  e ← end_at n.1
  Ok (n.0, e.1)

-- ---- repetitions

-- One after the other, this many.
unfoldable pub times_at : {A : Type 0} → Read A → ℕ → Read (List A)
times_at read zero at = Ok ([], at)
times_at read (suc n) at = do
  x ← read at
  xs ← times_at read n x.1
  Ok (x.0 ∷ xs.0, xs.1)

-- The fields of a line as long as `goes` passes them, each read in the state that the ones before it left.
unfoldable pub list_from : {A S : Type 0} → (List ℕ → Bool) → (S → List ℕ → Result A FormName) → (S → A → S) → S → ℕ → ℕ → List LinePart → Result (List A × Position) FormFault
list_from goes leaf step state line field [] = Ok ([], record { line = line; field = field; tokens = [] })
list_from goes leaf step state line field (Newline ∷ ts) = Ok ([], record { line = line; field = field; tokens = Newline ∷ ts })
list_from goes leaf step state line field (Field f ∷ ts) =
    if goes f then (fault_placed line field (leaf state f) >>= λ x. list_from goes leaf step (step state x) line (field + 1) ts >>= λ xs. Ok (x ∷ xs.0, xs.1))
    else Ok ([], record { line = line; field = field; tokens = Field f ∷ ts })

-- The same, from a place.
abbrev pub list_at : {A S : Type 0} → (List ℕ → Bool) → (S → List ℕ → Result A FormName) → (S → A → S) → S → Read (List A)
list_at goes leaf step state at = list_from goes leaf step state at.line at.field at.tokens

-- The next field and the place after it, where the line has one and a list goes on with it.
abbrev pub member_from : (List ℕ → Bool) → ℕ → ℕ → List LinePart → Option (List ℕ × Position)
member_from goes line field (Field f ∷ ts) = if goes f then Some (f, record { line = line; field = field + 1; tokens = ts }) else None
member_from goes line field ts = None

-- The same, from a place.
abbrev pub member_field : (List ℕ → Bool) → Position → Option (List ℕ × Position)
member_field goes at = member_from goes at.line at.field at.tokens

-- With how many fields a list goes on, of the next ones, at most this many.
abbrev pub members_up_to : (List ℕ → Bool) → ℕ → List LinePart → ℕ
members_up_to goes zero ts = 0
members_up_to goes (suc n) (Field f ∷ ts) = if goes f then members_up_to goes n ts + 1 else 0
members_up_to goes (suc n) ts = 0

-- Whether the tokens begin with this word, in a line that is ended.
abbrev pub begins_from : List ℕ → List LinePart → Bool
begins_from word (Field f ∷ ts) = bytes_eq f word && has_newline ts
begins_from word ts = false

-- Whether an ended line begins at a place with this word.
abbrev pub begins_at : List ℕ → Position → Bool
begins_at word at = begins_from word at.tokens

-- As many lines as begin with the word, and at most `limit`: `limit` at the first one that is too much.
unfoldable pub while_at : {A : Type 0} → List ℕ → Read A → ℕ → Read (List A)
while_at word read zero at = if begins_at word at then Err (line_fault at name.Limit) else Ok ([], at)
while_at word read (suc n) at =
    if begins_at word at then (read at >>= λ x. while_at word read n x.1 >>= λ xs. Ok (x.0 ∷ xs.0, xs.1)) else Ok ([], at)

-- ---- what calls promise

-- A call that takes no memory answers what a reading function gives. After a fault nothing is said of the place.
abbrev pub Reads : {X A : Type 0} → (X → A) → Result X FormFault → Position → Result (A × Position) FormFault → Type 0
Reads view (Ok x) now read = read ≡ Ok (view x, now)
Reads view (Err fault) now read = read ≡ Err fault

-- A call takes what is there and goes to the place after it, or leaves the place as it is.
abbrev pub Takes : {A : Type 0} → Option A → Position → Position → Option (A × Position) → Type 0
Takes (Some x) old now there = there ≡ Some (x, now)
Takes None old now there = (there ≡ None) × (now ≡ old)

-- The same of a call that takes memory: where memory runs out nothing is said.
abbrev pub Gives : {X A : Type 0} → (X → A) → Result X FormEnd → Position → Result (A × Position) FormFault → Type 0
Gives view (Ok x) now read = read ≡ Ok (view x, now)
Gives view (Err (Fault fault)) now read = read ≡ Err fault
Gives view (Err (Memory e)) now read = Unit {0}

-- The same of a call that reads a whole text: its answer is this one, unless memory runs out.
abbrev pub Tells : {X A : Type 0} → (X → A) → Result X FormEnd → Result A FormFault → Type 0
Tells view (Ok x) answer = answer ≡ Ok (view x)
Tells view (Err (Fault fault)) answer = answer ≡ Err fault
Tells view (Err (Memory e)) answer = Unit {0}

-- The value of a whole text, without the place.
abbrev pub value_read : {A : Type 0} → Result (A × Position) FormFault → Result A FormFault
value_read (Ok x) = Ok x.0
value_read (Err fault) = Err fault
