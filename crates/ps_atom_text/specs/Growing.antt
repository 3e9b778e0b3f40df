-- Fields of a line, each taken with what those before it made.
use Rattle.std.specs.Prelude.{ℕ, ◌+◌, Bool, not, List, [], ◌∷◌, Result, Ok, if◌then◌else◌}
use Rattle.std.specs.Str.{bytes_eq}
use Rattle.ps_lines.specs.declared.form_fault.FormFault.{FormFault}
use Rattle.ps_lines.specs.declared.form_name.FormName.{FormName}
use Rattle.ps_lines.specs.Reading.{Position, Read, fault_placed}
use Rattle.ps_lines.specs.Steps.{◌>>=◌}
use Rattle.ps_lines.specs.Tokens.{LinePart, Field, Newline}

-- What a state grows to with the fields of a line, as long as `goes` passes them.
unfoldable pub grow_from : {S : Type 0} → (List ℕ → Bool) → (S → List ℕ → Result S FormName) → S → ℕ → ℕ → List LinePart → Result (S × Position) FormFault
grow_from goes grown state line field [] = Ok (state, record { line = line; field = field; tokens = [] })
grow_from goes grown state line field (Newline ∷ ts) = Ok (state, record { line = line; field = field; tokens = Newline ∷ ts })
grow_from goes grown state line field (Field f ∷ ts) =
    if goes f then (fault_placed line field (grown state f) >>= λ more. grow_from goes grown more line (field + 1) ts)
    else Ok (state, record { line = line; field = field; tokens = Field f ∷ ts })

-- The same, from a place.
abbrev pub grow_at : {S : Type 0} → (List ℕ → Bool) → (S → List ℕ → Result S FormName) → S → Read S
grow_at goes grown state at = grow_from goes grown state at.line at.field at.tokens

-- A list of fields that ends at this word goes on with any other.
abbrev pub goes_to : List ℕ → List ℕ → Bool
goes_to word field = not (bytes_eq field word)
