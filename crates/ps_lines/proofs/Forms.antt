-- The laws of lines of a word and a count, of repetitions, and of whole texts.
use Rattle.std.proofs.Common.{◌≡◌, ℕ, zero, suc, ◌+◌, ◌^◌, ◌<◌, ◌≤◌, Bool, true, false, List, [], ◌∷◌, ◌++◌, map, length, Result, Ok, Err, refl, sym, ap, subst, ◌∙◌, arith, append_assoc}
use Rattle.std.specs.Prelude.{IfOk, decimal, if◌then◌else◌}
use Rattle.std.specs.List.{flat_map, AllByRecursion}
use Rattle.std.proofs.lemmas.Bool.{cond-true, cond-false}
use Rattle.ps_lines.specs.declared.form_name.FormName.{FormName}
use Rattle.ps_lines.specs.declared.form_name.FormName.TheVariants as name
use Rattle.ps_lines.specs.declared.form_fault.FormFault.{FormFault}
use Rattle.ps_lines.specs.declared.form_end.FormEnd.{FormEnd}
use Rattle.ps_lines.specs.Tokens.{LinePart, Field, Newline, line_parts, text_bytes, parts_of_text}
use Rattle.ps_lines.specs.Reading.{Position, Read, text_start, Tells, fault_placed, leaf_at, end_at, only_at, done_from, done_at, count, header_at, times_at, list_from, list_at, begins_from, begins_at, while_at}
use Rattle.ps_lines.specs.Steps.{and_then, ◌>>=◌}
use Rattle.ps_lines.proofs.Bytes.{IsPlain, IsClean, AreClean, IsClean-append, text_read, text_back}
use Rattle.ps_lines.proofs.Exact.{Finds, Gets, found_bind, found_end, gets_bind, gets_end, Exact, Always, leaf_exact, placed_found, line_exact, end_exact}
use Rattle.ps_lines.proofs.Decimals.{count_is_leaf}

-- ---- a line that is a word alone

only_found : (word : List ℕ) → IsPlain word → (at : Position) → Finds (only_at word at) (λ y. (at.tokens ≡ (Field word ∷ (Newline ∷ [])) ++ y.1.tokens) × Unit {0})
unfolding only_at
only_found word plain at =
    found_bind _ _ _ _ ((line_exact word plain).found at) (λ w p.
    record { is = lift_end word at w.1 p.0 (end_at w.1) (end_exact.found w.1).is })
  where
    lift_end : (word : List ℕ) (at mid : Position) → at.tokens ≡ (Field word ∷ []) ++ mid.tokens → (r : Result (Unit {0} × Position) FormFault) → IfOk r (λ y. (mid.tokens ≡ (Newline ∷ []) ++ y.1.tokens) × Unit {0}) → IfOk r (λ y. (at.tokens ≡ (Field word ∷ (Newline ∷ [])) ++ y.1.tokens) × Unit {0})
    lift_end word at mid e (Ok y) h = (e ∙ ap (λ (ts : List LinePart). Field word ∷ ts) h.0, tt)
    lift_end word at mid e (Err f) h = tt

only_again : (word : List ℕ) → IsPlain word → (at : Position) (x : Unit {0}) (rest : List LinePart) → Unit {0} → at.tokens ≡ (Field word ∷ (Newline ∷ [])) ++ rest → Unit {0} → Gets (only_at word at) (λ y. (y.0 ≡ x) × (y.1.tokens ≡ rest))
unfolding only_at
only_again word plain at x rest fit e h =
    gets_bind _ _ _ _ ((line_exact word plain).again at x (Newline ∷ rest) tt e refl) (λ w p.
    end_exact.again w.1 x rest tt p.1 tt)

pub only_exact : (word : List ℕ) → IsPlain word → Exact (only_at word) (λ _. Field word ∷ (Newline ∷ [])) Always Always
only_exact word plain = record { found = only_found word plain; again = only_again word plain; clean = λ x fit. (plain, tt) }

-- ---- a word and a count

pub count_exact : (limit : ℕ) → limit < 2 ^ 32 → Exact (leaf_at (count limit)) (λ n. Field (decimal n) ∷ []) (λ n. n ≤ limit) Always
count_exact limit small = leaf_exact (count limit) decimal (λ n. n ≤ limit) (count_is_leaf limit small)

abbrev pub header_tokens : List ℕ → ℕ → List LinePart
header_tokens word n = Field word ∷ (Field (decimal n) ∷ (Newline ∷ []))

header_found : (word : List ℕ) (limit : ℕ) → IsPlain word → limit < 2 ^ 32 → (at : Position) → Finds (header_at word limit at) (λ y. (at.tokens ≡ header_tokens word y.0 ++ y.1.tokens) × (y.0 ≤ limit))
unfolding header_at
header_found word limit plain small at =
    found_bind _ _ _ _ ((line_exact word plain).found at) (λ w p.
    found_bind _ _ _ _ ((count_exact limit small).found w.1) (λ n q.
    found_bind _ _ _ _ (end_exact.found n.1) (λ e r.
    found_end _ _ (p.0 ∙ ap (λ (ts : List LinePart). Field word ∷ ts) (q.0 ∙ ap (λ (ts : List LinePart). Field (decimal n.0) ∷ ts) r.0), q.1))))

header_again : (word : List ℕ) (limit : ℕ) → IsPlain word → limit < 2 ^ 32 → (at : Position) (n : ℕ) (rest : List LinePart) → n ≤ limit → at.tokens ≡ header_tokens word n ++ rest → Unit {0} → Gets (header_at word limit at) (λ y. (y.0 ≡ n) × (y.1.tokens ≡ rest))
unfolding header_at
header_again word limit plain small at n rest fit e h =
    gets_bind _ _ _ _ ((line_exact word plain).again at tt (Field (decimal n) ∷ (Newline ∷ rest)) tt e refl) (λ w p.
    gets_bind _ _ _ _ ((count_exact limit small).again w.1 n (Newline ∷ rest) fit p.1 tt) (λ m q.
    gets_bind _ _ _ _ (end_exact.again m.1 tt rest tt q.1 tt) (λ e r.
    gets_end _ _ (q.0, r.1))))

pub header_exact : (word : List ℕ) (limit : ℕ) → IsPlain word → limit < 2 ^ 32 → Exact (header_at word limit) (header_tokens word) (λ n. n ≤ limit) Always
header_exact word limit plain small = record {
  found = header_found word limit plain small;
  again = header_again word limit plain small;
  clean = λ n le. (plain, ((count_is_leaf limit small).clean n le, tt));
}

-- ---- one after the other

times_found : {A : Type 0} (read : Read A) (spell : A → List LinePart) (fits : A → Type 0) → Exact read spell fits Always → (n : ℕ) (at : Position) → Finds (times_at read n at) (λ y. (at.tokens ≡ flat_map spell y.0 ++ y.1.tokens) × ((length y.0 ≡ n) × AllByRecursion fits y.0))
unfolding times_at
times_found read spell fits exact zero at = record { is = (refl, (refl, tt)) }
times_found read spell fits exact (suc n) at =
    found_bind _ _ _ _ (exact.found at) (λ x p.
    found_bind _ _ _ _ (times_found read spell fits exact n x.1) (λ xs q.
    found_end _ _ (p.0 ∙ ap (λ (ts : List LinePart). spell x.0 ++ ts) q.0 ∙ sym (append_assoc (spell x.0) (flat_map spell xs.0) xs.1.tokens), (ap suc q.1.0, (p.1, q.1.1)))))

pub cons_is : {A : Type 0} (x y : A) (xs ys : List A) → x ≡ y → xs ≡ ys → x ∷ xs ≡ y ∷ ys
cons_is {A = A} x y xs ys p q = ap (λ (z : A). z ∷ xs) p ∙ ap (λ (zs : List A). y ∷ zs) q

times_again : {A : Type 0} (read : Read A) (spell : A → List LinePart) (fits : A → Type 0) → Exact read spell fits Always → (xs : List A) (at : Position) (rest : List LinePart) → AllByRecursion fits xs → at.tokens ≡ flat_map spell xs ++ rest → Gets (times_at read (length xs) at) (λ y. (y.0 ≡ xs) × (y.1.tokens ≡ rest))
unfolding times_at
times_again read spell fits exact [] at rest fit e = record { value = ([], at); ok = refl; is = (refl, e) }
times_again read spell fits exact (x ∷ xs) at rest fit e =
    gets_bind _ _ _ _ (exact.again at x (flat_map spell xs ++ rest) fit.0 (e ∙ append_assoc (spell x) (flat_map spell xs) rest) tt) (λ y p.
    gets_bind _ _ _ _ (times_again read spell fits exact xs y.1 rest fit.1 p.1) (λ ys q.
    gets_end _ _ (cons_is y.0 x ys.0 xs p.0 q.0, q.1)))

clean_times : {A : Type 0} (spell : A → List LinePart) (fits : A → Type 0) → ((x : A) → fits x → IsClean (spell x)) → (xs : List A) → AllByRecursion fits xs → IsClean (flat_map spell xs)
clean_times spell fits clean [] fit = tt
clean_times spell fits clean (x ∷ xs) fit = IsClean-append (spell x) (flat_map spell xs) (clean x fit.0) (clean_times spell fits clean xs fit.1)

pub times_exact : {A : Type 0} (read : Read A) (spell : A → List LinePart) (fits : A → Type 0) → Exact read spell fits Always → (n : ℕ) → Exact (times_at read n) (flat_map spell) (λ xs. (length xs ≡ n) × AllByRecursion fits xs) Always
times_exact read spell fits exact n = record {
  found = times_found read spell fits exact n;
  again = λ at xs rest fit e h. subst (λ (m : ℕ). Gets (times_at read m at) (λ y. (y.0 ≡ xs) × (y.1.tokens ≡ rest))) fit.0 (times_again read spell fits exact xs at rest fit.1 e);
  clean = λ xs fit. clean_times spell fits exact.clean xs fit.1;
}

-- ---- lists in a line

-- the members fit, each in the state that those before it left
abbrev pub Chain : {A S : Type 0} → (S → A → S) → (S → A → Type 0) → S → List A → Type 0
Chain step fits state [] = Unit {0}
Chain step fits state (x ∷ xs) = fits state x × Chain step fits (step state x) xs

-- A member is read as text writes it, and the list goes on with it.
pub record IsMember {A S : Type 0} (goes : List ℕ → Bool) (leaf : S → List ℕ → Result A FormName) (text : A → List ℕ) (fits : S → A → Type 0) : Type 0 where
  pub found : (state : S) (f : List ℕ) → goes f ≡ true → IfOk (leaf state f) (λ x. (f ≡ text x) × fits state x)
  pub again : (state : S) (x : A) → fits state x → leaf state (text x) ≡ Ok x
  pub goes_on : (state : S) (x : A) → fits state x → goes (text x) ≡ true
  pub clean : (state : S) (x : A) → fits state x → IsPlain (text x)

-- what follows a list isn't one of its fields
abbrev pub Stops : (List ℕ → Bool) → List LinePart → Type 0
Stops goes (Field f ∷ ts) = goes f ≡ false
Stops goes ts = Unit {0}

abbrev pub member_tokens : {A : Type 0} → (A → List ℕ) → List A → List LinePart
member_tokens text xs = map (λ x. Field (text x)) xs

list_found : {A S : Type 0} (goes : List ℕ → Bool) (leaf : S → List ℕ → Result A FormName) (step : S → A → S) (text : A → List ℕ) (fits : S → A → Type 0) → IsMember goes leaf text fits → (ts : List LinePart) (state : S) (line field : ℕ) → Finds (list_from goes leaf step state line field ts) (λ y. (ts ≡ member_tokens text y.0 ++ y.1.tokens) × Chain step fits state y.0)
unfolding list_from
list_found goes leaf step text fits is [] state line field = record { is = (refl, tt) }
list_found goes leaf step text fits is (Newline ∷ ts) state line field = record { is = (refl, tt) }
list_found {A = A} goes leaf step text fits is (Field f ∷ ts) state line field =
    by_test (goes f) refl (λ x. list_found goes leaf step text fits is ts (step state x) line (field + 1))
  where
    by_test : (t : Bool) → goes f ≡ t
        → ((x : A) → Finds (list_from goes leaf step (step state x) line (field + 1) ts) (λ y. (ts ≡ member_tokens text y.0 ++ y.1.tokens) × Chain step fits (step state x) y.0))
        → Finds {A = List A × Position} (if t then (fault_placed line field (leaf state f) >>= λ x. list_from goes leaf step (step state x) line (field + 1) ts >>= λ xs. Ok (x ∷ xs.0, xs.1)) else Ok ([], record { line = line; field = field; tokens = Field f ∷ ts })) (λ y. (Field f ∷ ts ≡ member_tokens text y.0 ++ y.1.tokens) × Chain step fits state y.0)
    by_test true test rest =
        found_bind _ _ _ _ (placed_found line field (leaf state f) (λ x. (f ≡ text x) × fits state x) (is.found state f test)) (λ x p.
        found_bind _ _ _ _ (rest x) (λ xs q.
        found_end _ _ (ap (λ (g : List ℕ). Field g ∷ ts) p.0 ∙ ap (λ (us : List LinePart). Field (text x) ∷ us) q.0, (p.1, q.1))))
    by_test false test rest = record { is = (refl, tt) }

list_again_none : {A S : Type 0} (goes : List ℕ → Bool) (leaf : S → List ℕ → Result A FormName) (step : S → A → S) (state : S) (line field : ℕ) (rest : List LinePart) → Stops goes rest → Gets (list_from goes leaf step state line field rest) (λ y. (y.0 ≡ []) × (y.1.tokens ≡ rest))
unfolding list_from
list_again_none goes leaf step state line field [] stops = record { value = ([], record { line = line; field = field; tokens = [] }); ok = refl; is = (refl, refl) }
list_again_none goes leaf step state line field (Newline ∷ ts) stops = record { value = ([], record { line = line; field = field; tokens = Newline ∷ ts }); ok = refl; is = (refl, refl) }
list_again_none goes leaf step state line field (Field f ∷ ts) stops = record { value = ([], record { line = line; field = field; tokens = Field f ∷ ts }); ok = cond-false _ _ _ stops; is = (refl, refl) }

list_again : {A S : Type 0} (goes : List ℕ → Bool) (leaf : S → List ℕ → Result A FormName) (step : S → A → S) (text : A → List ℕ) (fits : S → A → Type 0) → IsMember goes leaf text fits → (xs : List A) (state : S) (line field : ℕ) (rest : List LinePart) → Chain step fits state xs → Stops goes rest → Gets (list_from goes leaf step state line field (member_tokens text xs ++ rest)) (λ y. (y.0 ≡ xs) × (y.1.tokens ≡ rest))
unfolding list_from and_then
list_again goes leaf step text fits is [] state line field rest fit stops = list_again_none goes leaf step state line field rest stops
list_again {A = A} goes leaf step text fits is (x ∷ xs) state line field rest fit stops =
    let us : List LinePart = member_tokens text xs ++ rest in
    let next : List A × Position → Result (List A × Position) FormFault = λ ys. Ok (x ∷ ys.0, ys.1) in
    let one : list_from goes leaf step state line field (Field (text x) ∷ us) ≡ (list_from goes leaf step (step state x) line (field + 1) us >>= next) = rw (is.goes_on state x fit.0, is.again state x fit.0) refl in
    let more : Gets (list_from goes leaf step (step state x) line (field + 1) us >>= next) (λ y. (y.0 ≡ x ∷ xs) × (y.1.tokens ≡ rest)) =
    gets_bind (list_from goes leaf step (step state x) line (field + 1) us) next (λ y. (y.0 ≡ xs) × (y.1.tokens ≡ rest)) (λ y. (y.0 ≡ x ∷ xs) × (y.1.tokens ≡ rest)) (list_again goes leaf step text fits is xs (step state x) line (field + 1) rest fit.1 stops) (λ ys q.
    gets_end _ _ (cons_is x x ys.0 xs refl q.0, q.1)) in
    record { value = more.value; ok = one ∙ more.ok; is = more.is }

clean_list : {A S : Type 0} (goes : List ℕ → Bool) (leaf : S → List ℕ → Result A FormName) (step : S → A → S) (text : A → List ℕ) (fits : S → A → Type 0) → IsMember goes leaf text fits → (xs : List A) (state : S) → Chain step fits state xs → IsClean (member_tokens text xs)
clean_list goes leaf step text fits is [] state fit = tt
clean_list goes leaf step text fits is (x ∷ xs) state fit = (is.clean state x fit.0, clean_list goes leaf step text fits is xs (step state x) fit.1)

pub list_exact : {A S : Type 0} (goes : List ℕ → Bool) (leaf : S → List ℕ → Result A FormName) (step : S → A → S) (text : A → List ℕ) (fits : S → A → Type 0) → IsMember goes leaf text fits → (state : S) → Exact (list_at goes leaf step state) (member_tokens text) (Chain step fits state) (Stops goes)
list_exact goes leaf step text fits is state = record {
  found = λ at. list_found goes leaf step text fits is at.tokens state at.line at.field;
  again = λ at xs rest fit e stops. subst (λ (ts : List LinePart). Gets (list_from goes leaf step state at.line at.field ts) (λ y. (y.0 ≡ xs) × (y.1.tokens ≡ rest))) (sym e) (list_again goes leaf step text fits is xs state at.line at.field rest fit stops);
  clean = λ xs fit. clean_list goes leaf step text fits is xs state fit;
}

-- ---- whole texts

pub done_found : (at : Position) → Finds (done_at at) (λ _. at.tokens ≡ [])
done_found at = by_tokens at.line at.tokens
  where
    by_tokens : (line : ℕ) (ts : List LinePart) → Finds (done_from line ts) (λ _. ts ≡ [])
    by_tokens line [] = record { is = refl }
    by_tokens line (t ∷ ts) = record { is = tt }

pub done_again : (at : Position) → at.tokens ≡ [] → done_at at ≡ Ok tt
done_again at e = ap (done_from at.line) e

-- A reading function of whole texts reads what the lines of a value spell, of the values that fit.
pub record IsFormat {A : Type 0} (read : Position → Result A FormFault) (lines : A → List (List ℕ × List (List ℕ))) (fits : A → Type 0) : Type 0 where
  pub found : (at : Position) → Finds (read at) (λ v. (at.tokens ≡ parts_of_text (lines v)) × fits v)
  pub again : (at : Position) (v : A) → fits v → at.tokens ≡ parts_of_text (lines v) → Gets (read at) (λ w. w ≡ v)
  pub clean : (v : A) → fits v → AreClean (lines v)

found_at : {A : Type 0} (r : Result A FormFault) (Q : A → Type 0) (x : A) → Finds r Q → r ≡ Ok x → Q x
found_at r Q x h e = subst (λ s. IfOk s Q) e h.is

-- what is read is spelled so, and fits
pub is_spelled : {X A : Type 0} (read : Position → Result A FormFault) (lines : A → List (List ℕ × List (List ℕ))) (fits : A → Type 0) → IsFormat read lines fits → (view : X → A) (first : ℕ) (bytes : List ℕ) (result : Result X FormEnd) → Tells view result (read (text_start first bytes)) → IfOk result (λ x. fits (view x) × (bytes ≡ text_bytes (lines (view x))))
is_spelled read lines fits is view first bytes (Ok x) told =
    let p = found_at (read (text_start first bytes)) (λ v. (line_parts bytes ≡ parts_of_text (lines v)) × fits v) (view x) (is.found (text_start first bytes)) told in
    (p.1, text_back bytes (lines (view x)) p.0)
is_spelled read lines fits is view first bytes (Err e) told = tt

-- what is spelled so is read, unless memory runs out
pub is_read : {X A : Type 0} (read : Position → Result A FormFault) (lines : A → List (List ℕ × List (List ℕ))) (fits : A → Type 0) → IsFormat read lines fits → (view : X → A) (first : ℕ) (bytes : List ℕ) (result : Result X FormEnd) → Tells view result (read (text_start first bytes)) → (v : A) → fits v → bytes ≡ text_bytes (lines v) → Tells view result (Ok v)
is_read {A = A} read lines fits is view first bytes result told v fit e =
    let g = is.again (text_start first bytes) v fit (ap line_parts e ∙ text_read (lines v) (is.clean v fit)) in
    subst (λ (answer : Result A FormFault). Tells view result answer) (g.ok ∙ ap (λ (w : A). Ok w) g.is) told

-- ---- lines as long as they begin with a word

-- each spelling begins with the word, in a line that is ended
abbrev pub StartWith : {A : Type 0} → List ℕ → (A → List LinePart) → (A → Type 0) → Type 0
StartWith {A} word spell fits = (x : A) (rest : List LinePart) → fits x → begins_from word (spell x ++ rest) ≡ true

abbrev pub Stopped : List ℕ → List LinePart → Type 0
Stopped word rest = begins_from word rest ≡ false

while_found : {A : Type 0} (word : List ℕ) (read : Read A) (spell : A → List LinePart) (fits : A → Type 0) → Exact read spell fits Always → (limit : ℕ) (at : Position) → Finds (while_at word read limit at) (λ y. (at.tokens ≡ flat_map spell y.0 ++ y.1.tokens) × ((length y.0 ≤ limit) × AllByRecursion fits y.0))
unfolding while_at
while_found {A = A} word read spell fits exact zero at = by_test (begins_at word at)
  where
    by_test : (t : Bool) → Finds {A = List A × Position} (if t then Err (record { line = at.line; field = 0; what = name.Limit }) else Ok ([], at)) (λ y. (at.tokens ≡ flat_map spell y.0 ++ y.1.tokens) × ((length y.0 ≤ 0) × AllByRecursion fits y.0))
    by_test true = record { is = tt }
    by_test false = record { is = (refl, (omega arith, tt)) }
while_found {A = A} word read spell fits exact (suc n) at = by_test (begins_at word at) (λ mid. while_found word read spell fits exact n mid)
  where
    by_test : (t : Bool) → ((mid : Position) → Finds (while_at word read n mid) (λ y. (mid.tokens ≡ flat_map spell y.0 ++ y.1.tokens) × ((length y.0 ≤ n) × AllByRecursion fits y.0)))
        → Finds {A = List A × Position} (if t then (read at >>= λ x. while_at word read n x.1 >>= λ xs. Ok (x.0 ∷ xs.0, xs.1)) else Ok ([], at)) (λ y. (at.tokens ≡ flat_map spell y.0 ++ y.1.tokens) × ((length y.0 ≤ suc n) × AllByRecursion fits y.0))
    by_test true rest =
        found_bind _ _ _ _ (exact.found at) (λ x p.
        found_bind _ _ _ _ (rest x.1) (λ xs q.
        found_end _ _ (p.0 ∙ ap (λ (ts : List LinePart). spell x.0 ++ ts) q.0 ∙ sym (append_assoc (spell x.0) (flat_map spell xs.0) xs.1.tokens), (omega (arith, q.1.0), (p.1, q.1.1)))))
    by_test false rest = record { is = (refl, (omega arith, tt)) }

while_again_none : {A : Type 0} (word : List ℕ) (read : Read A) (limit : ℕ) (at : Position) → begins_at word at ≡ false → while_at word read limit at ≡ Ok ([], at)
unfolding while_at
while_again_none word read zero at h = cond-false _ _ _ h
while_again_none word read (suc n) at h = cond-false _ _ _ h

while_again : {A : Type 0} (word : List ℕ) (read : Read A) (spell : A → List LinePart) (fits : A → Type 0) → Exact read spell fits Always → StartWith word spell fits → (xs : List A) (limit : ℕ) (at : Position) (rest : List LinePart) → length xs ≤ limit → AllByRecursion fits xs → at.tokens ≡ flat_map spell xs ++ rest → Stopped word rest → Gets (while_at word read limit at) (λ y. (y.0 ≡ xs) × (y.1.tokens ≡ rest))
unfolding while_at
while_again word read spell fits exact text_start [] limit at rest le fit e stop =
    record { value = ([], at); ok = while_again_none word read limit at (ap (begins_from word) e ∙ stop); is = (refl, e) }
while_again word read spell fits exact text_start (x ∷ xs) zero at rest le fit e stop = absurd (omega arith)
while_again {A = A} word read spell fits exact text_start (x ∷ xs) (suc n) at rest le fit e stop =
    let split : at.tokens ≡ spell x ++ (flat_map spell xs ++ rest) = e ∙ append_assoc (spell x) (flat_map spell xs) rest in
    let begins : begins_at word at ≡ true = ap (begins_from word) split ∙ text_start x (flat_map spell xs ++ rest) fit.0 in
    let more : Gets {A = List A × Position} (read at >>= λ y. while_at word read n y.1 >>= λ ys. Ok (y.0 ∷ ys.0, ys.1)) (λ y. (y.0 ≡ x ∷ xs) × (y.1.tokens ≡ rest)) =
    gets_bind _ _ _ _ (exact.again at x (flat_map spell xs ++ rest) fit.0 split tt) (λ y p.
    gets_bind _ _ _ _ (while_again word read spell fits exact text_start xs n y.1 rest (omega (arith, le)) fit.1 p.1 stop) (λ ys q.
    gets_end _ _ (cons_is y.0 x ys.0 xs p.0 q.0, q.1))) in
    record { value = more.value; ok = cond-true _ _ _ begins ∙ more.ok; is = more.is }

pub while_exact : {A : Type 0} (word : List ℕ) (read : Read A) (spell : A → List LinePart) (fits : A → Type 0) → Exact read spell fits Always → StartWith word spell fits → (limit : ℕ) → Exact (while_at word read limit) (flat_map spell) (λ xs. (length xs ≤ limit) × AllByRecursion fits xs) (Stopped word)
while_exact word read spell fits exact text_start limit = record {
  found = while_found word read spell fits exact limit;
  again = λ at xs rest fit e stop. while_again word read spell fits exact text_start xs limit at rest fit.0 fit.1 e stop;
  clean = λ xs fit. clean_times spell fits exact.clean xs fit.1;
}
