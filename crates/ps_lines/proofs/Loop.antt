-- Reading one after the other, as loops do: what was read, with what is still read, is all.
use Rattle.std.proofs.Common.{◌≡◌, ℕ, zero, suc, ◌-◌, ◌+◌, ◌≤◌, ◌<◌, Bool, true, false, List, [], ◌∷◌, ◌++◌, length, Option, Some, None, Result, Ok, Err, refl, sym, ap, ◌∙◌, append_assoc, arith}
use Rattle.std.proofs.lemmas.List.{append-nil}
use Rattle.std.proofs.lemmas.Option.{none-some}
use Rattle.ps_lines.specs.declared.form_name.FormName.{FormName}
use Rattle.ps_lines.specs.declared.form_name.FormName.TheVariants as name
use Rattle.ps_lines.specs.declared.form_fault.FormFault.{FormFault}
use Rattle.ps_lines.specs.declared.form_end.FormEnd.{FormEnd}
use Rattle.ps_lines.specs.declared.form_end.FormEnd.TheVariants.{Fault, Memory}
use Rattle.ps_lines.specs.Reading.{Position, Read, Gives, fault_placed, leaf_at, times_at, list_from, list_at, begins_at, line_fault, while_at}
use Rattle.ps_lines.specs.Steps.{and_then, ◌>>=◌}
use Rattle.ps_lines.specs.inner.Ahead.{member_at}
use Rattle.ps_lines.specs.Tokens.{LinePart, Field, Newline}

-- what was read before, and what is still read
abbrev pub with_front : {A : Type 0} → List A → Result (List A × Position) FormFault → Result (List A × Position) FormFault
with_front front read = read >>= λ x. Ok (front ++ x.0, x.1)

pub with_front-none : {A : Type 0} (read : Result (List A × Position) FormFault) → with_front [] read ≡ read
unfolding and_then
with_front-none (Ok x) = refl
with_front-none (Err f) = refl

pub with_front-more : {A : Type 0} (front : List A) (x : A) (read : Result (List A × Position) FormFault) → with_front front (read >>= λ y. Ok (x ∷ y.0, y.1)) ≡ with_front (front ++ x ∷ []) read
unfolding and_then
with_front-more {A = A} front x (Ok y) = ap (λ (ns : List A). Ok (ns, y.1)) (sym (append_assoc front (x ∷ []) y.0))
with_front-more front x (Err f) = refl

-- a step, in a loop that has `left` to go
pub record Times {A : Type 0} (read : Read A) (front : List A) (left : ℕ) (at : Position) (total : Result (List A × Position) FormFault) : Type 0 where
  pub same : with_front front (times_at read left at) ≡ total

pub times_none : {A : Type 0} (read : Read A) (n : ℕ) (at : Position) → Times read [] n at (times_at read n at)
times_none read n at = record { same = with_front-none (times_at read n at) }

pub times_more : {A : Type 0} (read : Read A) (front : List A) (n i : ℕ) (at after : Position) (x : A) (total : Result (List A × Position) FormFault) → Times read front (n - i) at total → i < n → Gives (λ (y : A). y) (Ok x) after (read at) → Times read (front ++ x ∷ []) (n - (i + 1)) after total
unfolding and_then times_at
times_more read front n i at after x total h lt e =
    let k : n - i ≡ suc (n - (i + 1)) = omega arith in
    let one : with_front front (times_at read (n - i) at) ≡ with_front (front ++ x ∷ []) (times_at read (n - (i + 1)) after) = rw (k, e) (with_front-more front x (times_at read (n - (i + 1)) after)) in
    record { same = sym one ∙ h.same }

pub times_all : {A : Type 0} (read : Read A) (front : List A) (n i : ℕ) (at : Position) (total : Result (List A × Position) FormFault) → Times read front (n - i) at total → n ≤ i → total ≡ Ok (front, at)
unfolding and_then times_at
times_all {A = A} read front n i at total h le =
    let k : n - i ≡ 0 = omega arith in
    let one : with_front front (times_at read (n - i) at) ≡ Ok (front, at) = rw k (ap (λ (ns : List A). Ok (ns, at)) (append-nil front)) in
    sym h.same ∙ one

pub times_fails : {A X : Type 0} (view : X → List A) (read : Read A) (front : List A) (n i : ℕ) (at now after : Position) (e : FormEnd) (total : Result (List A × Position) FormFault) → Times read front (n - i) at total → i < n → Gives (λ (y : A). y) (Err e) now (read at) → Gives view (Err e) after total
unfolding and_then times_at
times_fails view read front n i at now after (Memory m) total h lt e = tt
times_fails view read front n i at now after (Fault f) total h lt e =
    let k : n - i ≡ suc (n - (i + 1)) = omega arith in
    let one : with_front front (times_at read (n - i) at) ≡ Err f = rw (k, e) refl in
    sym h.same ∙ one

-- the members of a list, in a loop that stands at `at` with the state of the ones before
pub record Many {A S : Type 0} (goes : List ℕ → Bool) (leaf : S → List ℕ → Result A FormName) (step : S → A → S) (front : List A) (state : S) (at : Position) (total : Result (List A × Position) FormFault) : Type 0 where
  pub same : with_front front (list_at goes leaf step state at) ≡ total

pub many_none : {A S : Type 0} (goes : List ℕ → Bool) (leaf : S → List ℕ → Result A FormName) (step : S → A → S) (state : S) (at : Position) → Many goes leaf step [] state at (list_at goes leaf step state at)
many_none goes leaf step state at = record { same = with_front-none (list_at goes leaf step state at) }

-- a list is its next member, and the list that follows
abbrev then_list : {A S : Type 0} → (List ℕ → Bool) → (S → List ℕ → Result A FormName) → (S → A → S) → S → Option A → Position → Result (List A × Position) FormFault
then_list goes leaf step state None at = Ok ([], at)
then_list goes leaf step state (Some x) at = list_at goes leaf step (step state x) at >>= λ xs. Ok (x ∷ xs.0, xs.1)

list_by_members : {A S : Type 0} (goes : List ℕ → Bool) (leaf : S → List ℕ → Result A FormName) (step : S → A → S) (state : S) (at : Position) → list_at goes leaf step state at ≡ (member_at goes (leaf state) at >>= λ x. then_list goes leaf step state x.0 x.1)
unfolding and_then list_from leaf_at
list_by_members goes leaf step state at = by_tokens goes leaf step state at.line at.field at.tokens
  where
    by_leaf : {A S : Type 0} (goes : List ℕ → Bool) (leaf : S → List ℕ → Result A FormName) (step : S → A → S) (state : S) (line field : ℕ) (ts : List LinePart) (r : Result A FormName) →
        and_then (fault_placed line field r) (λ x. and_then (list_from goes leaf step (step state x) line (field + 1) ts) (λ xs. Ok (x ∷ xs.0, xs.1)))
        ≡ and_then {A = Option A × Position} (and_then {A = A × Position} (and_then (fault_placed line field r) (λ x. Ok (x, record { line = line; field = field + 1; tokens = ts }))) (λ x. Ok (Some x.0, x.1))) (λ x. then_list goes leaf step state x.0 x.1)
    by_leaf goes leaf step state line field ts (Ok x) = refl
    by_leaf goes leaf step state line field ts (Err what) = refl

    by_test : {A S : Type 0} (goes : List ℕ → Bool) (leaf : S → List ℕ → Result A FormName) (step : S → A → S) (state : S) (line field : ℕ) (f : List ℕ) (ts : List LinePart) (t : Bool) → goes f ≡ t → list_at goes leaf step state (record { line = line; field = field; tokens = Field f ∷ ts }) ≡ (member_at goes (leaf state) (record { line = line; field = field; tokens = Field f ∷ ts }) >>= λ x. then_list goes leaf step state x.0 x.1)
    by_test goes leaf step state line field f ts true e = rw e (by_leaf goes leaf step state line field ts (leaf state f))
    by_test goes leaf step state line field f ts false e = rw e refl

    by_tokens : {A S : Type 0} (goes : List ℕ → Bool) (leaf : S → List ℕ → Result A FormName) (step : S → A → S) (state : S) (line field : ℕ) (ts : List LinePart) → list_at goes leaf step state (record { line = line; field = field; tokens = ts }) ≡ (member_at goes (leaf state) (record { line = line; field = field; tokens = ts }) >>= λ x. then_list goes leaf step state x.0 x.1)
    by_tokens goes leaf step state line field [] = refl
    by_tokens goes leaf step state line field (Newline ∷ ts) = refl
    by_tokens goes leaf step state line field (Field f ∷ ts) = by_test goes leaf step state line field f ts (goes f) refl

pub many_more : {A S : Type 0} (goes : List ℕ → Bool) (leaf : S → List ℕ → Result A FormName) (step : S → A → S) (front : List A) (state : S) (at after : Position) (x : A) (total : Result (List A × Position) FormFault) → Many goes leaf step front state at total → member_at goes (leaf state) at ≡ Ok (Some x, after) → Many goes leaf step (front ++ x ∷ []) (step state x) after total
unfolding and_then
many_more goes leaf step front state at after x total h e =
    let one : list_at goes leaf step state at ≡ (list_at goes leaf step (step state x) after >>= λ xs. Ok (x ∷ xs.0, xs.1)) = list_by_members goes leaf step state at ∙ ap (λ r. r >>= λ x. then_list goes leaf step state x.0 x.1) e in
    record { same = sym (with_front-more front x (list_at goes leaf step (step state x) after)) ∙ ap (with_front front) (sym one) ∙ h.same }

abbrev pub read_of : {A : Type 0} → A × Position → Result (A × Position) FormFault
read_of x = Ok x

pub read_is : {A : Type 0} (x y : A × Position) → read_of x ≡ read_of y → x ≡ y
read_is x y e = cc

abbrev field_next : ℕ → ℕ → List LinePart → Position
field_next line field ts = record { line = line; field = field; tokens = ts }

smaller_by_leaf : {A : Type 0} (line field : ℕ) (ts : List LinePart) (after : Position) (x : A) (r : Result A FormName) → and_then {A = A × Position} (and_then (fault_placed line field r) (λ y. read_of (y, field_next line (field + 1) ts))) (λ y. read_of (Some y.0, y.1)) ≡ read_of (Some x, after) → length after.tokens < suc (length ts)
unfolding and_then
smaller_by_leaf {A = A} line field ts after x (Ok y) e = let same : length ts ≡ length after.tokens = ap (λ (p : Option A × Position). length p.1.tokens) (read_is (Some y, field_next line (field + 1) ts) (Some x, after) e) in omega (arith, same)
smaller_by_leaf line field ts after x (Err what) e = absurd cc

not_none : {A : Type 0} (at after : Position) (x : A) → read_of (None, at) ≡ read_of (Some x, after) → ⊥
not_none {A = A} at after x e = none-some x (ap (λ (p : Option A × Position). p.0) (read_is (None, at) (Some x, after) e))

smaller_by_test : {A : Type 0} (goes : List ℕ → Bool) (leaf : List ℕ → Result A FormName) (line field : ℕ) (f : List ℕ) (ts : List LinePart) (after : Position) (x : A) (t : Bool) → goes f ≡ t → member_at goes leaf (field_next line field (Field f ∷ ts)) ≡ read_of (Some x, after) → length after.tokens < suc (length ts)
unfolding and_then leaf_at
smaller_by_test goes leaf line field f ts after x true test e = smaller_by_leaf line field ts after x (leaf f) (rw test at e)
smaller_by_test goes leaf line field f ts after x false test e = absurd (not_none (field_next line field (Field f ∷ ts)) after x (rw test at e))

smaller_by_tokens : {A : Type 0} (goes : List ℕ → Bool) (leaf : List ℕ → Result A FormName) (line field : ℕ) (ts : List LinePart) (after : Position) (x : A) → member_at goes leaf (field_next line field ts) ≡ read_of (Some x, after) → length after.tokens < length ts
smaller_by_tokens goes leaf line field [] after x e = absurd (not_none (field_next line field []) after x e)
smaller_by_tokens goes leaf line field (Newline ∷ ts) after x e = absurd (not_none (field_next line field (Newline ∷ ts)) after x e)
smaller_by_tokens goes leaf line field (Field f ∷ ts) after x e = smaller_by_test goes leaf line field f ts after x (goes f) refl e

-- a member that was read is a field less
pub many_smaller : {A : Type 0} (goes : List ℕ → Bool) (leaf : List ℕ → Result A FormName) (at after : Position) (x : A) → member_at goes leaf at ≡ Ok (Some x, after) → length after.tokens < length at.tokens
many_smaller goes leaf at after x e = smaller_by_tokens goes leaf at.line at.field at.tokens after x e

pub many_all : {A S : Type 0} (goes : List ℕ → Bool) (leaf : S → List ℕ → Result A FormName) (step : S → A → S) (front : List A) (state : S) (at after : Position) (total : Result (List A × Position) FormFault) → Many goes leaf step front state at total → member_at goes (leaf state) at ≡ Ok (None, after) → total ≡ Ok (front, after)
unfolding and_then
many_all {A = A} goes leaf step front state at after total h e =
    let one : list_at goes leaf step state at ≡ Ok ([], after) = list_by_members goes leaf step state at ∙ ap (λ r. r >>= λ x. then_list goes leaf step state x.0 x.1) e in
    sym h.same ∙ ap (with_front front) one ∙ ap (λ (ns : List A). Ok (ns, after)) (append-nil front)

pub many_fails : {A S : Type 0} (goes : List ℕ → Bool) (leaf : S → List ℕ → Result A FormName) (step : S → A → S) (front : List A) (state : S) (at : Position) (f : FormFault) (total : Result (List A × Position) FormFault) → Many goes leaf step front state at total → member_at goes (leaf state) at ≡ Err f → total ≡ Err f
unfolding and_then
many_fails goes leaf step front state at f total h e =
    let one : list_at goes leaf step state at ≡ Err f = list_by_members goes leaf step state at ∙ ap (λ r. r >>= λ x. then_list goes leaf step state x.0 x.1) e in
    sym h.same ∙ ap (with_front front) one

-- lines that begin with a word, in a loop that may take `left` more
pub record Whiles {A : Type 0} (word : List ℕ) (read : Read A) (front : List A) (left : ℕ) (at : Position) (total : Result (List A × Position) FormFault) : Type 0 where
  pub same : with_front front (while_at word read left at) ≡ total

pub whiles_none : {A : Type 0} (word : List ℕ) (read : Read A) (n : ℕ) (at : Position) → Whiles word read [] n at (while_at word read n at)
whiles_none word read n at = record { same = with_front-none (while_at word read n at) }

none_begins : {A : Type 0} (word : List ℕ) (read : Read A) (n : ℕ) (at : Position) → begins_at word at ≡ false → while_at word read n at ≡ Ok ([], at)
unfolding while_at
none_begins word read zero at h = rw h refl
none_begins word read (suc n) at h = rw h refl

pub whiles_stop : {A : Type 0} (word : List ℕ) (read : Read A) (front : List A) (n : ℕ) (at : Position) (total : Result (List A × Position) FormFault) → Whiles word read front n at total → begins_at word at ≡ false → total ≡ Ok (front, at)
unfolding and_then
whiles_stop {A = A} word read front n at total h stop = sym h.same ∙ ap (with_front front) (none_begins word read n at stop) ∙ ap (λ (ns : List A). Ok (ns, at)) (append-nil front)

pub whiles_limit : {A : Type 0} (word : List ℕ) (read : Read A) (front : List A) (n i : ℕ) (at : Position) (total : Result (List A × Position) FormFault) → Whiles word read front (n - i) at total → n ≤ i → begins_at word at ≡ true → total ≡ Err (line_fault at name.Limit)
unfolding and_then while_at
whiles_limit word read front n i at total h le more =
    let k : n - i ≡ 0 = omega arith in
    let one : while_at word read (n - i) at ≡ Err (line_fault at name.Limit) = rw (k, more) refl in
    sym h.same ∙ ap (with_front front) one

pub whiles_more : {A : Type 0} (word : List ℕ) (read : Read A) (front : List A) (n i : ℕ) (at after : Position) (x : A) (total : Result (List A × Position) FormFault) → Whiles word read front (n - i) at total → i < n → begins_at word at ≡ true → Gives (λ (y : A). y) (Ok x) after (read at) → Whiles word read (front ++ x ∷ []) (n - (i + 1)) after total
unfolding and_then while_at
whiles_more word read front n i at after x total h lt more e =
    let k : n - i ≡ suc (n - (i + 1)) = omega arith in
    let one : with_front front (while_at word read (n - i) at) ≡ with_front (front ++ x ∷ []) (while_at word read (n - (i + 1)) after) = rw (k, more, e) (with_front-more front x (while_at word read (n - (i + 1)) after)) in
    record { same = sym one ∙ h.same }

pub whiles_fails : {A X : Type 0} (view : X → List A) (word : List ℕ) (read : Read A) (front : List A) (n i : ℕ) (at now after : Position) (e : FormEnd) (total : Result (List A × Position) FormFault) → Whiles word read front (n - i) at total → i < n → begins_at word at ≡ true → Gives (λ (y : A). y) (Err e) now (read at) → Gives view (Err e) after total
unfolding and_then while_at
whiles_fails view word read front n i at now after (Memory m) total h lt more e = tt
whiles_fails view word read front n i at now after (Fault f) total h lt more e =
    let k : n - i ≡ suc (n - (i + 1)) = omega arith in
    let one : with_front front (while_at word read (n - i) at) ≡ Err f = rw (k, more, e) refl in
    sym h.same ∙ one
