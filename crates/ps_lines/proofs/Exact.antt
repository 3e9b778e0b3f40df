-- The laws of reading functions, in steps: what is read is spelled so, and what is spelled so is read.
-- Neither speaks of places: an answer that is no fault depends on the tokens alone.
use Rattle.std.proofs.Common.{◌≡◌, ℕ, ◌+◌, Bool, true, false, List, [], ◌∷◌, ◌++◌, Result, Ok, Err, refl, ap, ◌∙◌}
use Rattle.std.specs.Prelude.{IfOk, if◌then◌else◌}
use Rattle.std.specs.Str.{bytes_eq}
use Rattle.std.proofs.lemmas.Bool.{cond-true}
use Rattle.std.proofs.lemmas.Slice.Eq.{bytes_eq-Decides}
use Rattle.ps_lines.specs.declared.form_name.FormName.{FormName}
use Rattle.ps_lines.specs.declared.form_name.FormName.TheVariants as name
use Rattle.ps_lines.specs.declared.form_fault.FormFault.{FormFault}
use Rattle.ps_lines.specs.Tokens.{LinePart, Field, Newline, has_newline}
use Rattle.ps_lines.specs.Reading.{Position, Read, fault_placed, field_from, leaf_at, word_leaf, word_at, line_at, end_from, end_at}
use Rattle.ps_lines.specs.Steps.{and_then, ◌>>=◌}
use Rattle.ps_lines.proofs.Bytes.{IsPlain, IsClean}

-- what a step that didn't fail found
pub record Finds {A : Type 0} (r : Result A FormFault) (Q : A → Type 0) : Type 0 where
  pub is : IfOk r Q

-- a step doesn't fail
pub record Gets {A : Type 0} (r : Result A FormFault) (Q : A → Type 0) : Type 0 where
  pub value : A
  pub ok : r ≡ Ok value
  pub is : Q value

pub found_bind : {A B : Type 0} (r : Result A FormFault) (f : A → Result B FormFault) (Q : A → Type 0) (R : B → Type 0) → Finds r Q → ((x : A) → Q x → Finds (f x) R) → Finds (r >>= f) R
unfolding and_then
found_bind (Ok x) f Q R h k = k x h.is
found_bind (Err e) f Q R h k = record { is = tt }

pub found_end : {A : Type 0} (y : A) (R : A → Type 0) → R y → Finds (Ok y) R
found_end y R h = record { is = h }

pub gets_bind : {A B : Type 0} (r : Result A FormFault) (f : A → Result B FormFault) (Q : A → Type 0) (R : B → Type 0) → Gets r Q → ((x : A) → Q x → Gets (f x) R) → Gets (r >>= f) R
unfolding and_then
gets_bind r f Q R h k =
    let n = k h.value h.is in
    record { value = n.value; ok = ap (λ s. and_then s f) h.ok ∙ n.ok; is = n.is }

pub gets_end : {A : Type 0} (y : A) (R : A → Type 0) → R y → Gets (Ok y) R
gets_end y R h = record { value = y; ok = refl; is = h }

-- A reading function reads what spell writes, of the values that fit, where what follows is so.
pub record Exact {A : Type 0} (read : Read A) (spell : A → List LinePart) (fits : A → Type 0) (follows : List LinePart → Type 0) : Type 0 where
  pub found : (at : Position) → Finds (read at) (λ y. (at.tokens ≡ spell y.0 ++ y.1.tokens) × fits y.0)
  pub again : (at : Position) (x : A) (rest : List LinePart) → fits x → at.tokens ≡ spell x ++ rest → follows rest → Gets (read at) (λ y. (y.0 ≡ x) × (y.1.tokens ≡ rest))
  pub clean : (x : A) → fits x → IsClean (spell x)

abbrev pub Always : {X : Type 0} → X → Type 0
Always x = Unit {0}

-- ---- a field

-- A leaf reads what text writes, of the values that fit.
pub record IsLeaf {A : Type 0} (leaf : List ℕ → Result A FormName) (text : A → List ℕ) (fits : A → Type 0) : Type 0 where
  pub found : (f : List ℕ) → IfOk (leaf f) (λ x. (f ≡ text x) × fits x)
  pub again : (x : A) → fits x → leaf (text x) ≡ Ok x
  pub clean : (x : A) → fits x → IsPlain (text x)

field_found : (line field : ℕ) (ts : List LinePart) → Finds (field_from line field ts) (λ y. ts ≡ Field y.0 ∷ y.1.tokens)
field_found line field [] = record { is = tt }
field_found line field (Newline ∷ ts) = record { is = tt }
field_found line field (Field f ∷ ts) = record { is = refl }

pub placed_found : {A : Type 0} (line field : ℕ) (r : Result A FormName) (Q : A → Type 0) → IfOk r Q → Finds (fault_placed line field r) Q
placed_found line field (Ok x) Q h = record { is = h }
placed_found line field (Err what) Q h = record { is = tt }

leaf_found : {A : Type 0} (leaf : List ℕ → Result A FormName) (text : A → List ℕ) (fits : A → Type 0) → IsLeaf leaf text fits → (at : Position) → Finds (leaf_at leaf at) (λ y. (at.tokens ≡ (Field (text y.0) ∷ []) ++ y.1.tokens) × fits y.0)
unfolding leaf_at
leaf_found leaf text fits is at =
    found_bind _ _ _ _ (field_found at.line at.field at.tokens) (λ f p.
    found_bind _ _ _ _ (placed_found at.line at.field (leaf f.0) (λ x. (f.0 ≡ text x) × fits x) (is.found f.0)) (λ x q.
    found_end _ _ (p ∙ ap (λ (g : List ℕ). Field g ∷ f.1.tokens) q.0, q.1)))

leaf_again : {A : Type 0} (leaf : List ℕ → Result A FormName) (text : A → List ℕ) (fits : A → Type 0) → IsLeaf leaf text fits → (at : Position) (x : A) (rest : List LinePart) → fits x → at.tokens ≡ (Field (text x) ∷ []) ++ rest → Always rest → Gets (leaf_at leaf at) (λ y. (y.0 ≡ x) × (y.1.tokens ≡ rest))
unfolding leaf_at and_then
leaf_again leaf text fits is at x rest fit e h =
    record { value = (x, record { line = at.line; field = at.field + 1; tokens = rest }); ok = rw (e, is.again x fit) refl; is = (refl, refl) }

pub leaf_exact : {A : Type 0} (leaf : List ℕ → Result A FormName) (text : A → List ℕ) (fits : A → Type 0) → IsLeaf leaf text fits → Exact (leaf_at leaf) (λ x. Field (text x) ∷ []) fits Always
leaf_exact leaf text fits is = record { found = leaf_found leaf text fits is; again = leaf_again leaf text fits is; clean = λ x fit. (is.clean x fit, tt) }

-- ---- words

word_found : (word f : List ℕ) → IfOk (word_leaf word f) (λ x. (f ≡ word) × Unit {0})
word_found word f = by_test (bytes_eq f word) refl
  where
    by_test : (t : Bool) → bytes_eq f word ≡ t → IfOk (if t then Ok tt else Err name.Word) (λ (x : Unit {0}). (f ≡ word) × Unit {0})
    by_test true e = ((bytes_eq-Decides f word).0 e, tt)
    by_test false e = tt

word_is_leaf : (word : List ℕ) → IsPlain word → IsLeaf (word_leaf word) (λ _. word) Always
word_is_leaf word plain = record {
  found = word_found word;
  again = λ x fit. cond-true _ _ _ ((bytes_eq-Decides word word).1 refl);
  clean = λ x fit. plain;
}

pub word_exact : (word : List ℕ) → IsPlain word → Exact (word_at word) (λ _. Field word ∷ []) Always Always
word_exact word plain = leaf_exact (word_leaf word) (λ _. word) Always (word_is_leaf word plain)

-- ---- lines

abbrev pub Ended : List LinePart → Type 0
Ended ts = has_newline ts ≡ true

pub ended-append : (xs ts : List LinePart) → Ended (xs ++ Newline ∷ ts)
ended-append [] ts = refl
ended-append (Newline ∷ xs) ts = refl
ended-append (Field f ∷ xs) ts = ended-append xs ts

line_found : (word : List ℕ) → IsPlain word → (at : Position) → Finds (line_at word at) (λ y. (at.tokens ≡ (Field word ∷ []) ++ y.1.tokens) × Unit {0})
unfolding line_at
line_found word plain at = by_test (has_newline at.tokens)
  where
    by_test : (t : Bool) → Finds (if t then word_at word at else Err (record { line = at.line; field = 0; what = name.Cut })) (λ y. (at.tokens ≡ (Field word ∷ []) ++ y.1.tokens) × Unit {0})
    by_test true = (word_exact word plain).found at
    by_test false = record { is = tt }

line_again : (word : List ℕ) → IsPlain word → (at : Position) (x : Unit {0}) (rest : List LinePart) → Unit {0} → at.tokens ≡ (Field word ∷ []) ++ rest → Ended rest → Gets (line_at word at) (λ y. (y.0 ≡ x) × (y.1.tokens ≡ rest))
unfolding line_at
line_again word plain at x rest fit e ended =
    let one = (word_exact word plain).again at x rest tt e tt in
    let ahead : has_newline at.tokens ≡ true = ap has_newline e ∙ ended in
    record { value = one.value; ok = cond-true _ _ _ ahead ∙ one.ok; is = one.is }

pub line_exact : (word : List ℕ) → IsPlain word → Exact (line_at word) (λ _. Field word ∷ []) Always Ended
line_exact word plain = record { found = line_found word plain; again = line_again word plain; clean = λ x fit. (plain, tt) }

end_found : (line field : ℕ) (ts : List LinePart) → Finds (end_from line field ts) (λ y. (ts ≡ (Newline ∷ []) ++ y.1.tokens) × Unit {0})
end_found line field [] = record { is = tt }
end_found line field (Newline ∷ ts) = record { is = (refl, tt) }
end_found line field (Field f ∷ ts) = record { is = tt }

end_again : (at : Position) (x : Unit {0}) (rest : List LinePart) → Unit {0} → at.tokens ≡ (Newline ∷ []) ++ rest → Unit {0} → Gets (end_at at) (λ y. (y.0 ≡ x) × (y.1.tokens ≡ rest))
end_again at x rest fit e h = record { value = (tt, record { line = at.line + 1; field = 1; tokens = rest }); ok = rw e refl; is = (refl, refl) }

pub end_exact : Exact end_at (λ _. Newline ∷ []) Always Always
end_exact = record { found = λ at. end_found at.line at.field at.tokens; again = end_again; clean = λ x fit. tt }
