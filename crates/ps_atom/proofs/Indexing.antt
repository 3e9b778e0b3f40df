-- The index of a table follows its list.
use Rattle.std.proofs.Common.{◌≡◌, ◌≢◌, ◌⊎◌, ◌+◌, ◌<◌, ℕ, Bool, true, false, cond, List, [], ◌∷◌, ◌++◌, length, get_or, Option, Some, None, is_some, length-append, length-take, take, Contains, if◌then◌else◌, refl, sym, ap, ◌∙◌, subst, inl, inr, suc, zero, arith}
use Rattle.std.specs.List.{position_from, slice_get}
use Rattle.std.proofs.lemmas.Bool.{false≢true, true≢false}
use Rattle.std.proofs.lemmas.List.{take_more}
use Rattle.ps_list.proofs.Members.{nothing, cons_cases}
use Rattle.indexmap.specs.IndexMap.{get}
use Rattle.ps_atom.specs.declared.predicates.TheConstants.Predicates.{MOST}
use Rattle.ps_atom.specs.declared.key.Key.{Key}
use Rattle.ps_atom.specs.declared.predicate.Predicate.{Predicate}
use Rattle.ps_atom.specs.inner.Index.{Index, key_of, or_else, least, IsIndex, IsNoted, IsSameIndex}
use Rattle.ps_atom.specs.inner.KeyLaws.{key_decides}
use Rattle.ps_atom.specs.inner.Keys.{key_eq}
use Rattle.ps_atom.specs.Numbers.{IsNumberOf, IsTable, false_predicate}

-- ---- the list grows
or_else_none : (o : Option ℕ) → or_else o None ≡ o
or_else_none None = refl
or_else_none (Some n) = refl

position-push : (t : Predicate → Bool) (i : ℕ) (xs : List Predicate) (y : Predicate) → position_from t i (xs ++ y ∷ []) ≡ or_else (position_from t i xs) (if t y then Some (i + length xs) else None)
position-push t i [] y = let e : i + 0 ≡ i = omega arith in rw e refl
position-push t i (x ∷ xs) y = by_test (position-push t (i + 1) xs y) (t x)
  where
    moved : (i + 1) + length xs ≡ i + length (x ∷ xs)
    moved = omega arith

    by_test : position_from t (i + 1) (xs ++ y ∷ []) ≡ or_else (position_from t (i + 1) xs) (if t y then Some ((i + 1) + length xs) else None) → (b : Bool) → cond b (Some i) (position_from t (i + 1) (xs ++ y ∷ [])) ≡ or_else (cond b (Some i) (position_from t (i + 1) xs)) (if t y then Some (i + length (x ∷ xs)) else None)
    by_test rest true = refl
    by_test rest false = rest ∙ ap (λ (n : ℕ). or_else (position_from t (i + 1) xs) (if t y then Some n else None)) moved

pub index-push : (list : List Predicate) (predicate : Predicate) (old new : Index) → IsIndex list old → IsNoted old (key_of predicate) (length list) new → IsIndex (list ++ predicate ∷ []) new
index-push list predicate old new indexed noted k =
    noted k ∙ (ap (λ (o : Option ℕ). or_else o (if key_eq k (key_of predicate) then Some (length list) else None)) (indexed k) ∙ sym (position-push (λ p. key_eq k (key_of p)) 0 list predicate ∙ ap (λ (n : ℕ). or_else (least k list) (if key_eq k (key_of predicate) then Some n else None)) (let e : 0 + length list ≡ length list = omega arith in e)))

pub index-same : (list : List Predicate) (old new : Index) → IsIndex list old → IsSameIndex old new → IsIndex list new
index-same list old new indexed same k = same k ∙ indexed k

-- ---- a key is noted
pub noted_there : (old : Index) (key : Key) (number : ℕ) (n : ℕ) → get key_eq old key ≡ Some n → IsNoted old key number old
noted_there old key number n there_is k = by_test (key_eq k key) refl
  where
    by_test : (b : Bool) → key_eq k key ≡ b → get key_eq old k ≡ or_else (get key_eq old k) (if b then Some number else None)
    by_test true e = (let is : get key_eq old k ≡ Some n = subst (λ (q : Key). get key_eq old q ≡ Some n) (sym ((key_decides k key).0 e)) there_is in rw is refl)
    by_test false e = sym (or_else_none (get key_eq old k))

pub noted_new : (old new : Index) (key : Key) (number : ℕ) → get key_eq old key ≡ None → ((q : Key) → get key_eq new q ≡ cond (key_eq key q) (Some number) (get key_eq old q)) → IsNoted old key number new
noted_new old new key number none updates k = updates k ∙ by_test (key_eq k key) refl (key_eq key k) refl
  where
    by_test : (b : Bool) → key_eq k key ≡ b → (d : Bool) → key_eq key k ≡ d → cond d (Some number) (get key_eq old k) ≡ or_else (get key_eq old k) (if b then Some number else None)
    by_test true e true f = (let is : get key_eq old k ≡ None = subst (λ (q : Key). get key_eq old q ≡ None) (sym ((key_decides k key).0 e)) none in rw is refl)
    by_test false e false f = sym (or_else_none (get key_eq old k))
    by_test true e false f = absurd (true≢false (sym ((key_decides key k).1 (sym ((key_decides k key).0 e))) ∙ f))
    by_test false e true f = absurd (true≢false (sym ((key_decides k key).1 (sym ((key_decides key k).0 f))) ∙ e))

-- ---- what the least place is
record IsPlace (i : ℕ) (list : List Predicate) (predicate : Predicate) (found : ℕ) : Type 0 where
  pub offset : ℕ
  pub is : found ≡ i + offset
  pub number : IsNumberOf list predicate offset

position-Some : (i : ℕ) (list : List Predicate) (predicate : Predicate) (n : ℕ) → position_from (λ p. key_eq (key_of predicate) (key_of p)) i list ≡ Some n → IsPlace i list predicate n
position-Some i [] predicate n e = absurd (let f : ⊥ = cc in f)
position-Some i (x ∷ xs) predicate n e = by_test (λ f. position-Some (i + 1) xs predicate n f) (key_eq (key_of predicate) (key_of x)) refl e
  where
    later : key_eq (key_of predicate) (key_of x) ≡ false → IsPlace (i + 1) xs predicate n → IsPlace i (x ∷ xs) predicate n
    later other p = record {
      offset = suc p.offset;
      is = omega (arith, p.is);
      number = record {
        stands = p.number.stands;
        least = λ k h. below k h;
      };
    }
      where
        below : (k : ℕ) → k < suc p.offset → slice_get (x ∷ xs) k ≢ Some predicate
        below zero h g = true≢false (sym ((key_decides (key_of predicate) (key_of x)).1 (let s : x ≡ predicate = cc in ap key_of (sym s))) ∙ other)
        below (suc k) h g = p.number.least k (omega (arith, h)) g

    by_test : (position_from (λ p. key_eq (key_of predicate) (key_of p)) (i + 1) xs ≡ Some n → IsPlace (i + 1) xs predicate n) → (b : Bool) → key_eq (key_of predicate) (key_of x) ≡ b → cond b (Some i) (position_from (λ p. key_eq (key_of predicate) (key_of p)) (i + 1) xs) ≡ Some n → IsPlace i (x ∷ xs) predicate n
    by_test rest true f g = record {
      offset = 0;
      is = (let s : i ≡ n = cc in omega (arith, s));
      number = record {
        stands = ap (λ (k : Key). Some k.predicate) (sym ((key_decides (key_of predicate) (key_of x)).0 f));
        least = λ k h. absurd (omega (arith, h));
      };
    }
    by_test rest false f g = later f (rest g)

pub number-Some : (list : List Predicate) (predicate : Predicate) (n : ℕ) → least (key_of predicate) list ≡ Some n → IsNumberOf list predicate n
number-Some list predicate n e =
    let p = position-Some 0 list predicate n e in
    subst (λ (m : ℕ). IsNumberOf list predicate m) (let s : p.offset ≡ n = omega (arith, p.is) in s) p.number

pub number-None : (i : ℕ) (list : List Predicate) (predicate : Predicate) → position_from (λ p. key_eq (key_of predicate) (key_of p)) i list ≡ None → ¬ Contains list predicate
number-None i [] predicate e m = nothing predicate m
number-None i (x ∷ xs) predicate e m = by_test (λ f. number-None (i + 1) xs predicate f) (key_eq (key_of predicate) (key_of x)) refl e (cons_cases x xs predicate m)
  where
    by_test : (position_from (λ p. key_eq (key_of predicate) (key_of p)) (i + 1) xs ≡ None → ¬ Contains xs predicate) → (b : Bool) → key_eq (key_of predicate) (key_of x) ≡ b → cond b (Some i) (position_from (λ p. key_eq (key_of predicate) (key_of p)) (i + 1) xs) ≡ None → (x ≡ predicate) ⊎ Contains xs predicate → ⊥
    by_test rest true f g c = cc
    by_test rest false f g (inl s) = true≢false (sym ((key_decides (key_of predicate) (key_of x)).1 (ap key_of (sym s))) ∙ f)
    by_test rest false f g (inr c) = rest g c

-- ---- the table grows
get-front : (xs : List Predicate) (y p : Predicate) → slice_get xs 0 ≡ Some p → slice_get (xs ++ y ∷ []) 0 ≡ Some p
get-front [] y p e = absurd (let f : ⊥ = cc in f)
get-front (x ∷ xs) y p e = e

pub table-push : (list new : List Predicate) (predicate : Predicate) → IsTable list → length list < MOST → new ≡ list ++ predicate ∷ [] → IsTable new
table-push list new predicate table room is =
    subst (λ (xs : List Predicate). IsTable xs) (sym is) (record {
      first = get-front list predicate false_predicate table.first;
      within = omega (arith, length-append list (predicate ∷ []), room);
    })

pub noted_known : (old : Index) (key : Key) (number : ℕ) (o : Option ℕ) → is_some o ≡ true → o ≡ get key_eq old key → IsNoted old key number old
noted_known old key number None s e = absurd (false≢true s)
noted_known old key number (Some n) s e = noted_there old key number n (sym e)

pub unknown : (o : Option ℕ) → is_some o ≡ false → o ≡ None
unknown None s = refl
unknown (Some n) s = absurd (true≢false s)

pub index-step : (list : List Predicate) (i : ℕ) (predicate : Predicate) (number : ℕ) (old new : Index) → i < length list → predicate ≡ get_or list i predicate → number ≡ i → IsIndex (take i list) old → IsNoted old (key_of predicate) number new → IsIndex (take (i + 1) list) new
index-step list i predicate number old new h at_i number_is indexed noted =
    let long : length (take i list) ≡ i = omega (arith, length-take i list, h) in
    let taken : take (i + 1) list ≡ take i list ++ predicate ∷ [] = take_more list i predicate h ∙ ap (λ (p : Predicate). take i list ++ p ∷ []) (sym at_i) in
    subst (λ (xs : List Predicate). IsIndex xs new) (sym taken) (index-push (take i list) predicate old new indexed (subst (λ (n : ℕ). IsNoted old (key_of predicate) n new) (number_is ∙ sym long) noted))
