-- The laws of lists that grow, and the loop that reads them.
use Rattle.std.proofs.Common.{◌≡◌, ℕ, suc, ◌+◌, ◌<◌, Bool, true, false, List, [], ◌∷◌, ◌++◌, length, Option, Some, None, Result, Ok, Err, refl, sym, ap, ◌∙◌, arith}
use Rattle.std.specs.Prelude.{IfOk, if◌then◌else◌}
use Rattle.std.proofs.lemmas.Bool.{cond-false}
use Rattle.std.proofs.lemmas.Option.{none-some, same_Some}
use Rattle.ps_atom_text.specs.Growing.{grow_at, grow_from}
use Rattle.ps_atom_text.proofs.Fields.{found_as}
use Rattle.ps_lines.specs.declared.form_end.FormEnd.{FormEnd}
use Rattle.ps_lines.specs.declared.form_end.FormEnd.TheVariants.{Fault, Memory}
use Rattle.ps_lines.specs.declared.form_fault.FormFault.{FormFault}
use Rattle.ps_lines.specs.declared.form_name.FormName.{FormName}
use Rattle.ps_lines.specs.Reading.{Position, Gives, Tells, fault_placed, member_field, member_from}
use Rattle.ps_lines.specs.Steps.{and_then, ◌>>=◌}
use Rattle.ps_lines.specs.Tokens.{LinePart, Field, Newline}
use Rattle.ps_lines.proofs.Bytes.{IsPlain, IsClean}
use Rattle.ps_lines.proofs.Exact.{Finds, Gets, found_bind, placed_found}
use Rattle.ps_lines.proofs.Forms.{Stops, member_tokens}

-- ---- the loop

abbrev here : ℕ → ℕ → List LinePart → Position
here line field ts = record { line = line; field = field; tokens = ts }

-- with the field that the list goes on with, and then with those after it
abbrev grown_then : {S : Type 0} → (List ℕ → Bool) → (S → List ℕ → Result S FormName) → S → Position → Option (List ℕ × Position) → Result (S × Position) FormFault
grown_then goes grown state at None = Ok (state, at)
grown_then goes grown state at (Some p) = fault_placed at.line at.field (grown state p.0) >>= λ more. grow_at goes grown more p.1

by_tokens : {S : Type 0} (goes : List ℕ → Bool) (grown : S → List ℕ → Result S FormName) (state : S) (line field : ℕ) (ts : List LinePart) →
    grow_at goes grown state (here line field ts) ≡ grown_then goes grown state (here line field ts) (member_from goes line field ts)
unfolding grow_from
by_tokens goes grown state line field [] = refl
by_tokens goes grown state line field (Newline ∷ ts) = refl
by_tokens {S = S} goes grown state line field (Field f ∷ ts) = by_test (goes f) (f, here line (field + 1) ts)
  where
    by_test : (t : Bool) (p : List ℕ × Position) →
        (if t then (fault_placed line field (grown state p.0) >>= λ more. grow_at goes grown more p.1) else Ok (state, here line field (Field f ∷ ts)))
        ≡ grown_then goes grown state (here line field (Field f ∷ ts)) (if t then Some p else None)
    by_test true p = refl
    by_test false p = refl

-- a list grows by its next member
grows : {S : Type 0} (goes : List ℕ → Bool) (grown : S → List ℕ → Result S FormName) (state : S) (at : Position) → grow_at goes grown state at ≡ grown_then goes grown state at (member_field goes at)
grows goes grown state at = by_tokens goes grown state at.line at.field at.tokens

-- the list that is left grows to the same
pub grown_more : {S : Type 0} (goes : List ℕ → Bool) (grown : S → List ℕ → Result S FormName) (state more : S) (at after : Position) (f : List ℕ) (total : Result (S × Position) FormFault) →
    grow_at goes grown state at ≡ total → member_field goes at ≡ Some (f, after) → fault_placed at.line at.field (grown state f) ≡ Ok more → grow_at goes grown more after ≡ total
unfolding and_then
grown_more {S = S} goes grown state more at after f total same is e =
    sym (grows goes grown state at ∙ ap (grown_then goes grown state at) is ∙ ap (λ (r : Result S FormFault). r >>= λ x. grow_at goes grown x after) e) ∙ same

pub grown_fails : {X S : Type 0} (view : X → S) (goes : List ℕ → Bool) (grown : S → List ℕ → Result S FormName) (state : S) (at now after : Position) (f : List ℕ) (e : FormEnd) (total : Result (S × Position) FormFault) →
    grow_at goes grown state at ≡ total → member_field goes at ≡ Some (f, after) → Tells (λ (x : S). x) (Err e) (fault_placed at.line at.field (grown state f)) → Gives view (Err e) now total
unfolding and_then
grown_fails view goes grown state at now after f (Memory m) total same is e = tt
grown_fails {S = S} view goes grown state at now after f (Fault fault) total same is e =
    sym same ∙ grows goes grown state at ∙ ap (grown_then goes grown state at) is ∙ ap (λ (r : Result S FormFault). r >>= λ x. grow_at goes grown x after) e

pub grown_ends : {S : Type 0} (goes : List ℕ → Bool) (grown : S → List ℕ → Result S FormName) (state : S) (at now : Position) (total : Result (S × Position) FormFault) →
    grow_at goes grown state at ≡ total → member_field goes at ≡ None → now ≡ at → total ≡ Ok (state, now)
grown_ends {S = S} goes grown state at now total same is stays = sym same ∙ grows goes grown state at ∙ ap (grown_then goes grown state at) is ∙ ap (λ (p : Position). grown_then goes grown state p None) (sym stays)

smaller_by_tokens : (goes : List ℕ → Bool) (line field : ℕ) (ts : List LinePart) (f : List ℕ) (after : Position) → member_from goes line field ts ≡ Some (f, after) → length after.tokens < length ts
smaller_by_tokens goes line field [] f after e = absurd (none-some _ e)
smaller_by_tokens goes line field (Newline ∷ ts) f after e = absurd (none-some _ e)
smaller_by_tokens goes line field (Field g ∷ ts) f after e = by_test (goes g) (g, here line (field + 1) ts) (f, after) e
  where
    by_test : (t : Bool) (p q : List ℕ × Position) → (if t then Some p else None) ≡ Some q → length q.1.tokens < suc (length p.1.tokens)
    by_test true p q e = let same : length p.1.tokens ≡ length q.1.tokens = ap (λ (r : List ℕ × Position). length r.1.tokens) (same_Some p q e) in omega (arith, same)
    by_test false p q e = absurd (none-some q e)

-- a field that was taken is one less
pub member_smaller : (goes : List ℕ → Bool) (at after : Position) (f : List ℕ) → member_field goes at ≡ Some (f, after) → length after.tokens < length at.tokens
member_smaller goes at after f e = smaller_by_tokens goes at.line at.field at.tokens f after e

-- ---- the laws

-- A state grows by a member just where it is read as text writes it, and the list goes on with it.
pub record IsGrowth {S A : Type 0} (goes : List ℕ → Bool) (grown : S → List ℕ → Result S FormName) (text : A → List ℕ) (step : S → A → S → Type 0) : Type 0 where
  pub found : (s : S) (f : List ℕ) → IfOk (grown s f) (λ t. (x : A) × (f ≡ text x) × step s x t)
  pub again : (s : S) (x : A) (t : S) → step s x t → grown s (text x) ≡ Ok t
  pub goes_on : (s : S) (x : A) (t : S) → step s x t → goes (text x) ≡ true
  pub clean : (s : S) (x : A) (t : S) → step s x t → IsPlain (text x)

-- the second state is the first with these members, one after the other
abbrev pub Steps : {S A : Type 0} → (S → A → S → Type 0) → S → List A → S → Type 0
Steps step s [] t = s ≡ t
Steps {S} step s (x ∷ xs) t = (u : S) × step s x u × Steps step u xs t

-- what fields made of a state
abbrev pub GrewBy : {S A : Type 0} → (A → List ℕ) → (S → A → S → Type 0) → S → List LinePart → S × Position → Type 0
GrewBy {S} {A} text step s ts y = (xs : List A) × (ts ≡ member_tokens text xs ++ y.1.tokens) × Steps step s xs y.0

pub grow_found : {S A : Type 0} (goes : List ℕ → Bool) (grown : S → List ℕ → Result S FormName) (text : A → List ℕ) (step : S → A → S → Type 0) → IsGrowth goes grown text step →
    (ts : List LinePart) (s : S) (line field : ℕ) → Finds (grow_from goes grown s line field ts) (GrewBy text step s ts)
unfolding grow_from
grow_found goes grown text step is [] s line field = record { is = ([], refl, refl) }
grow_found goes grown text step is (Newline ∷ ts) s line field = record { is = ([], refl, refl) }
grow_found {S = S} {A = A} goes grown text step is (Field f ∷ ts) s line field = by_test (goes f) (λ t. grow_found goes grown text step is ts t line (field + 1))
  where
    by_test : (t : Bool) → ((u : S) → Finds (grow_from goes grown u line (field + 1) ts) (GrewBy text step u ts))
        → Finds {A = S × Position} (if t then (fault_placed line field (grown s f) >>= λ more. grow_from goes grown more line (field + 1) ts) else Ok (s, here line field (Field f ∷ ts))) (GrewBy text step s (Field f ∷ ts))
    by_test false rest = record { is = ([], refl, refl) }
    by_test true rest =
        found_bind _ _ _ _ (placed_found line field (grown s f) (λ t. (x : A) × (f ≡ text x) × step s x t) (is.found s f)) (λ u p.
        found_as (grow_from goes grown u line (field + 1) ts) (GrewBy text step u ts) (GrewBy text step s (Field f ∷ ts)) (rest u) (λ y q.
        (p.0 ∷ q.0, ap (λ (g : List ℕ). Field g ∷ ts) p.1 ∙ ap (λ (us : List LinePart). Field (text p.0) ∷ us) q.1, (u, p.2, q.2))))

grow_stopped : {S : Type 0} (goes : List ℕ → Bool) (grown : S → List ℕ → Result S FormName) (s t : S) (line field : ℕ) (rest : List LinePart) → s ≡ t → Stops goes rest → Gets (grow_from goes grown s line field rest) (λ y. (y.0 ≡ t) × (y.1.tokens ≡ rest))
unfolding grow_from
grow_stopped goes grown s t line field [] same stops = record { value = (s, here line field []); ok = refl; is = (same, refl) }
grow_stopped goes grown s t line field (Newline ∷ ts) same stops = record { value = (s, here line field (Newline ∷ ts)); ok = refl; is = (same, refl) }
grow_stopped goes grown s t line field (Field f ∷ ts) same stops = record { value = (s, here line field (Field f ∷ ts)); ok = cond-false _ _ _ stops; is = (same, refl) }

pub grow_again : {S A : Type 0} (goes : List ℕ → Bool) (grown : S → List ℕ → Result S FormName) (text : A → List ℕ) (step : S → A → S → Type 0) → IsGrowth goes grown text step →
    (xs : List A) (s t : S) (line field : ℕ) (rest : List LinePart) → Steps step s xs t → Stops goes rest → Gets (grow_from goes grown s line field (member_tokens text xs ++ rest)) (λ y. (y.0 ≡ t) × (y.1.tokens ≡ rest))
unfolding grow_from and_then
grow_again goes grown text step is [] s t line field rest steps stops = grow_stopped goes grown s t line field rest steps stops
grow_again goes grown text step is (x ∷ xs) s t line field rest steps stops =
    let u = steps.0 in
    let us : List LinePart = member_tokens text xs ++ rest in
    let one : grow_from goes grown s line field (Field (text x) ∷ us) ≡ grow_from goes grown u line (field + 1) us = rw (is.goes_on s x u steps.1, is.again s x u steps.1) refl in
    let more = grow_again goes grown text step is xs u t line (field + 1) rest steps.2 stops in
    record { value = more.value; ok = one ∙ more.ok; is = more.is }

pub grow_clean : {S A : Type 0} (goes : List ℕ → Bool) (grown : S → List ℕ → Result S FormName) (text : A → List ℕ) (step : S → A → S → Type 0) → IsGrowth goes grown text step →
    (xs : List A) (s t : S) → Steps step s xs t → IsClean (member_tokens text xs)
grow_clean goes grown text step is [] s t steps = tt
grow_clean goes grown text step is (x ∷ xs) s t steps = (is.clean s x steps.0 steps.1, grow_clean goes grown text step is xs steps.0 t steps.2)
