-- The next member of a list, from the field that the list goes on with.
use Rattle.std.proofs.Common.{◌≡◌, ℕ, ◌+◌, Bool, true, false, List, [], ◌∷◌, Option, Some, None, Result, Ok, Err, refl, sym, ap, ◌∙◌}
use Rattle.std.specs.Prelude.{if◌then◌else◌}
use Rattle.ps_lines.specs.declared.form_fault.FormFault.{FormFault}
use Rattle.ps_lines.specs.declared.form_name.FormName.{FormName}
use Rattle.ps_lines.specs.Reading.{Position, fault_at, fault_placed, leaf_at, member_field, member_from}
use Rattle.ps_lines.specs.Steps.{and_then, ◌>>=◌}
use Rattle.ps_lines.specs.Tokens.{LinePart, Field, Newline}
use Rattle.ps_lines.specs.inner.Ahead.{member_at}

abbrev here : ℕ → ℕ → List LinePart → Position
here line field ts = record { line = line; field = field; tokens = ts }

abbrev told : {A : Type 0} → Option A → Position → Result (Option A × Position) FormFault
told x at = Ok (x, at)

-- what is read of the field that the list goes on with
abbrev member_then : {A : Type 0} → (List ℕ → Result A FormName) → Position → Option (List ℕ × Position) → Result (Option A × Position) FormFault
member_then leaf at None = told None at
member_then leaf at (Some p) = fault_placed at.line at.field (leaf p.0) >>= λ x. told (Some x) p.1

by_leaf : {A : Type 0} (line field : ℕ) (after : Position) (r : Result A FormName) →
    and_then {A = A × Position} (and_then (fault_placed line field r) (λ x. Ok (x, after))) (λ x. told (Some x.0) x.1)
    ≡ and_then (fault_placed line field r) (λ x. told (Some x) after)
unfolding and_then
by_leaf line field after (Ok x) = refl
by_leaf line field after (Err what) = refl

by_tokens : {A : Type 0} (goes : List ℕ → Bool) (leaf : List ℕ → Result A FormName) (line field : ℕ) (ts : List LinePart) → member_at goes leaf (here line field ts) ≡ member_then leaf (here line field ts) (member_from goes line field ts)
unfolding leaf_at and_then
by_tokens goes leaf line field [] = refl
by_tokens goes leaf line field (Newline ∷ ts) = refl
by_tokens {A = A} goes leaf line field (Field f ∷ ts) = by_test (goes f) (f, here line (field + 1) ts)
  where
    by_test : (t : Bool) (p : List ℕ × Position) →
        (if t then and_then {A = A × Position} (and_then (fault_placed line field (leaf p.0)) (λ x. Ok (x, p.1))) (λ x. told (Some x.0) x.1) else told None (here line field (Field f ∷ ts)))
        ≡ member_then leaf (here line field (Field f ∷ ts)) (if t then Some p else None)
    by_test true p = by_leaf line field p.1 (leaf p.0)
    by_test false p = refl

member_by : {A : Type 0} (goes : List ℕ → Bool) (leaf : List ℕ → Result A FormName) (at : Position) → member_at goes leaf at ≡ member_then leaf at (member_field goes at)
member_by goes leaf at = by_tokens goes leaf at.line at.field at.tokens

pub member_none : {A : Type 0} (goes : List ℕ → Bool) (leaf : List ℕ → Result A FormName) (at now : Position) → member_field goes at ≡ None → now ≡ at → member_at goes leaf at ≡ Ok (None, now)
member_none {A = A} goes leaf at now e same = member_by goes leaf at ∙ ap (member_then leaf at) e ∙ ap (λ (p : Position). told {A = A} None p) (sym same)

pub member_some : {A : Type 0} (goes : List ℕ → Bool) (leaf : List ℕ → Result A FormName) (at now : Position) (f : List ℕ) (x : A) → member_field goes at ≡ Some (f, now) → leaf f ≡ Ok x → member_at goes leaf at ≡ Ok (Some x, now)
unfolding and_then
member_some {A = A} goes leaf at now f x e read = member_by goes leaf at ∙ ap (member_then leaf at) e ∙ ap (λ (r : Result A FormName). and_then (fault_placed at.line at.field r) (λ y. told (Some y) now)) read

pub member_fault : {A : Type 0} (goes : List ℕ → Bool) (leaf : List ℕ → Result A FormName) (at now : Position) (f : List ℕ) (what : FormName) → member_field goes at ≡ Some (f, now) → leaf f ≡ Err what → member_at goes leaf at ≡ Err (fault_at at what)
unfolding and_then
member_fault {A = A} goes leaf at now f what e read = member_by goes leaf at ∙ ap (member_then leaf at) e ∙ ap (λ (r : Result A FormName). and_then (fault_placed at.line at.field r) (λ y. told (Some y) now)) read
