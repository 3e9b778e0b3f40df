-- The multipliers of an initial entry: those of the threads in no slot are added up for one thread more.
use Rattle.std.proofs.Common.{◌≡◌, ◌≢◌, Bool, true, false, ◌==◌, ◌||◌, refl, sym, ap, ap₂, ◌∙◌, subst, ℕ, zero, suc, ◌+◌, ℤ, pos, ◌*ℤ◌, ◌+ℤ◌, List, [], ◌∷◌, ◌++◌, append_assoc, length, map, inl, inr, ◌⊎◌, if◌then◌else◌, eq-eqb, arith}
use Rattle.std.specs.List.{AllByRecursion, flat_map, list_any}
use Rattle.std.proofs.lemmas.Bool.{cases_eq}
use Rattle.std.proofs.lemmas.Int.{ints}
use Rattle.std.proofs.lemmas.List.{append-nil, length-map}
use Rattle.ps_atom.specs.Atoms.{at_threads}
use Rattle.ps_atom.proofs.Chains.{IsChain}
use Rattle.ps_farkas.specs.Refutes.{weighted}
use Rattle.ps_interp.specs.Entries.{place_in}
use Rattle.ps_interp.specs.Weights.{added, weights_of, weights_of_others, zeros}
use Rattle.ps_term.specs.Term.{value}
use Rattle.ps_term.specs.declared.row.Row.{Row}
use Rattle.ps_term.specs.declared.term.Term.{Term}
use Rattle.ps_term.specs.declared.var.Var.{Var}
use Rattle.ps_term.proofs.Ring.{distribute_right, zero-mul}
use Rattle.ps_triple.specs.Places.{row_by}
use Rattle.ps_triple.specs.Rows.{rows_of_threads}
use Rattle.ps_interp.proofs.Numbered.{not_same}
use Rattle.ps_interp.proofs.Worth.{weighted_append}

-- ---- multipliers added, and multipliers 0
two_products : (m n p : ℤ) (a b c d : ℤ) → ((m +ℤ n) *ℤ p) ≡ ((m *ℤ p) +ℤ (n *ℤ p)) → c ≡ (a +ℤ b) → (((m +ℤ n) *ℤ p) +ℤ c) ≡ (((m *ℤ p) +ℤ a) +ℤ ((n *ℤ p) +ℤ b))
two_products m n p a b c d e f = omega (arith, ints, e, f)

pub weighted_added : (part : Term → ℤ) (rows : List Row) (ms ns : List ℕ) → length ms ≡ length ns →
    weighted part rows (added ms ns) ≡ (weighted part rows ms +ℤ weighted part rows ns)
weighted_added part [] ms ns e = refl
weighted_added part (r ∷ rows) [] [] e = refl
weighted_added part (r ∷ rows) [] (n ∷ ns) e = let no : ⊥ = omega (arith, e) in absurd no
weighted_added part (r ∷ rows) (m ∷ ms) [] e = let no : ⊥ = omega (arith, e) in absurd no
weighted_added part (r ∷ rows) (m ∷ ms) (n ∷ ns) e =
    ap (λ (z : ℤ). (z *ℤ part r.term) +ℤ weighted part rows (added ms ns)) (let s : pos (m + n) ≡ (pos m +ℤ pos n) = omega (arith, ints) in s)
    ∙ two_products (pos m) (pos n) (part r.term) (weighted part rows ms) (weighted part rows ns) (weighted part rows (added ms ns)) (pos 0)
    (distribute_right (pos m) (pos n) (part r.term)) (weighted_added part rows ms ns (omega (arith, e)))

plain : (z p : ℤ) → z ≡ pos 0 → ((pos 0 *ℤ p) +ℤ z) ≡ pos 0
plain z p e = omega (arith, ints, e, zero-mul p)

pub weighted_zeros : (part : Term → ℤ) (rows each : List Row) → weighted part rows (zeros each) ≡ pos 0
weighted_zeros part [] each = refl
weighted_zeros part (r ∷ rows) [] = refl
weighted_zeros part (r ∷ rows) (x ∷ each) = plain (weighted part rows (zeros each)) (part r.term) (weighted_zeros part rows each)

pub added_long : (n : ℕ) (ms ns : List ℕ) → length ms ≡ n → length ns ≡ n → length (added ms ns) ≡ n
added_long n [] ns e f = e
added_long n (m ∷ ms) [] e f = f
added_long zero (m ∷ ms) (k ∷ ns) e f = let no : ⊥ = omega (arith, e) in absurd no
added_long (suc n) (m ∷ ms) (k ∷ ns) e f = ap suc (added_long n ms ns (omega (arith, e)) (omega (arith, f)))

-- each has as many multipliers as there are rows
abbrev pub AreLong : List Row → List (ℕ × List ℕ) → Type 0
AreLong each pairs = AllByRecursion (λ (p : ℕ × List ℕ). length p.1 ≡ length each) pairs

zeros_long : (each : List Row) → length (zeros each) ≡ length each
zeros_long each = length-map each (λ _. 0)

pub own_long : (each : List Row) (pairs : List (ℕ × List ℕ)) (k : ℕ) → AreLong each pairs → length (weights_of (zeros each) pairs k) ≡ length each
own_long each [] k h = zeros_long each
own_long each (p ∷ pairs) k h = at (p.0 == k) (own_long each pairs k h.1)
  where
    at : (t : Bool) → length (weights_of (zeros each) pairs k) ≡ length each → length (if t then p.1 else weights_of (zeros each) pairs k) ≡ length each
    at true rest = h.0
    at false rest = rest

pub others_long : (each : List Row) (pairs : List (ℕ × List ℕ)) (slots : List ℕ) → AreLong each pairs → length (weights_of_others (zeros each) pairs slots) ≡ length each
others_long each [] slots h = zeros_long each
others_long each (p ∷ pairs) slots h = at (list_any (λ s. s == p.0) slots) (others_long each pairs slots h.1)
  where
    at : (t : Bool) → length (weights_of_others (zeros each) pairs slots) ≡ length each →
        length (if t then weights_of_others (zeros each) pairs slots else added p.1 (weights_of_others (zeros each) pairs slots)) ≡ length each
    at true rest = rest
    at false rest = added_long (length each) p.1 (weights_of_others (zeros each) pairs slots) h.0 rest

-- ---- sums over threads
module _ (v : Var → ℤ) (each : List Row) where
  -- the rows of a thread of this number, weighted
  abbrev pub thread_sum : ℕ → List ℕ → ℤ
  thread_sum s ws = weighted (value v) (map (row_by (at_threads (s ∷ []))) each) ws

  -- of threads in slots, from this slot on
  abbrev pub slot_sums : ℕ → List ℕ → (ℕ → List ℕ) → ℤ
  slot_sums a [] W = pos 0
  slot_sums a (t ∷ ts) W = thread_sum a (W t) +ℤ slot_sums (suc a) ts W

  -- of all threads, each at its slot, or at one more where it is in none
  abbrev pub all_sums : List ℕ → List (ℕ × List ℕ) → ℤ
  all_sums ts [] = pos 0
  all_sums ts (p ∷ ps) = thread_sum (place_in ts p.0) p.1 +ℤ all_sums ts ps

  no_sums : (a : ℕ) (ts : List ℕ) → slot_sums a ts (λ _. zeros each) ≡ pos 0
  no_sums a [] = refl
  no_sums a (t ∷ ts) = both (thread_sum a (zeros each)) (slot_sums (suc a) ts (λ _. zeros each)) (weighted_zeros (value v) (map (row_by (at_threads (a ∷ []))) each) each) (no_sums (suc a) ts)
    where
      both : (x y : ℤ) → x ≡ pos 0 → y ≡ pos 0 → (x +ℤ y) ≡ pos 0
      both x y e f = omega (arith, ints, e, f)

  same_sums : (a : ℕ) (ts : List ℕ) (V W : ℕ → List ℕ) → AllByRecursion (λ (t : ℕ). V t ≡ W t) ts → slot_sums a ts V ≡ slot_sums a ts W
  same_sums a [] V W h = refl
  same_sums a (t ∷ ts) V W h = ap₂ (λ (x : List ℕ) (y : ℤ). thread_sum a x +ℤ y) h.0 (same_sums (suc a) ts V W h.1)

  abbrev AreApart : List ℕ → Type 0
  AreApart ts = IsChain (λ (s t : ℕ). s ≢ t) ts

  abbrev set_to : ℕ → List ℕ → (ℕ → List ℕ) → ℕ → List ℕ
  set_to k ws W t = if k == t then ws else W t

  unset : (k : ℕ) (ws : List ℕ) (W : ℕ → List ℕ) (ts : List ℕ) → AllByRecursion (λ (u : ℕ). k ≢ u) ts → AllByRecursion (λ (t : ℕ). set_to k ws W t ≡ W t) ts
  unset k ws W [] h = tt
  unset k ws W (t ∷ ts) h = (ap (λ (b : Bool). if b then ws else W t) (not_same k t h.0), unset k ws W ts h.1)

  -- one thread that is in a slot
  slot_set : (a k : ℕ) (ws : List ℕ) (W : ℕ → List ℕ) (ts : List ℕ) → AreApart ts → list_any (λ s. s == k) ts ≡ true → W k ≡ zeros each →
      slot_sums a ts (set_to k ws W) ≡ (thread_sum (a + place_in ts k) ws +ℤ slot_sums a ts W)
  slot_set a k ws W [] d i z = cc
  slot_set a k ws W (t ∷ ts) d i z = at (cases_eq t k) (λ j. slot_set (suc a) k ws W ts d.1 j z)
    where
      first : (x y w m : ℤ) → x ≡ y → w ≡ pos 0 → (x +ℤ m) ≡ (y +ℤ (w +ℤ m))
      first x y w m e f = omega (arith, ints, e, f)

      later : (x y m p q : ℤ) → x ≡ y → m ≡ (p +ℤ q) → (x +ℤ m) ≡ (p +ℤ (y +ℤ q))
      later x y m p q e f = omega (arith, ints, e, f)

      at : (t ≡ k) ⊎ (t ≡ k → ⊥) → (list_any (λ s. s == k) ts ≡ true → slot_sums (suc a) ts (set_to k ws W) ≡ (thread_sum (suc a + place_in ts k) ws +ℤ slot_sums (suc a) ts W)) →
          slot_sums a (t ∷ ts) (set_to k ws W) ≡ (thread_sum (a + place_in (t ∷ ts) k) ws +ℤ slot_sums a (t ∷ ts) W)
      at (inl is) rest =
          ap (λ (m : ℤ). thread_sum a (set_to k ws W t) +ℤ m)
          (same_sums (suc a) ts (set_to k ws W) W (unset k ws W ts (subst (λ (j : ℕ). AllByRecursion (λ (u : ℕ). j ≢ u) ts) is d.0)))
          ∙ first (thread_sum a (set_to k ws W t)) (thread_sum (a + place_in (t ∷ ts) k) ws) (thread_sum a (W t)) (slot_sums (suc a) ts W)
          (ap₂ (λ (s : ℕ) (xs : List ℕ). thread_sum s xs)
          (let e : a ≡ a + 0 = omega arith in e ∙ ap (λ (b : Bool). a + (if b then 0 else suc (place_in ts k))) (sym (eq-eqb t k is)))
          (ap (λ (b : Bool). if b then ws else W t) (eq-eqb k t (sym is))))
          (ap (thread_sum a) (ap W is ∙ z) ∙ weighted_zeros (value v) (map (row_by (at_threads (a ∷ []))) each) each)
      at (inr other) rest =
          later (thread_sum a (set_to k ws W t)) (thread_sum a (W t)) (slot_sums (suc a) ts (set_to k ws W)) (thread_sum (a + place_in (t ∷ ts) k) ws) (slot_sums (suc a) ts W)
          (ap (λ (b : Bool). thread_sum a (if b then ws else W t)) (not_same k t (λ e. other (sym e))))
          (rest (sym (ap (λ (b : Bool). b || list_any (λ s. s == k) ts) (not_same t k other)) ∙ i)
          ∙ ap (λ (s : ℕ). thread_sum s ws +ℤ slot_sums (suc a) ts W)
          (let e : suc a + place_in ts k ≡ a + suc (place_in ts k) = omega arith in e ∙ ap (λ (b : Bool). a + (if b then 0 else suc (place_in ts k))) (sym (not_same t k other))))

  absent_place : (ts : List ℕ) (k : ℕ) → list_any (λ s. s == k) ts ≡ false → (place_in ts k ≡ length ts) × AllByRecursion (λ (u : ℕ). k ≢ u) ts
  absent_place [] k h = (refl, tt)
  absent_place (t ∷ ts) k h = at (cases_eq t k) (λ j. absent_place ts k j)
    where
      at : (t ≡ k) ⊎ (t ≡ k → ⊥) → (list_any (λ s. s == k) ts ≡ false → (place_in ts k ≡ length ts) × AllByRecursion (λ (u : ℕ). k ≢ u) ts) →
          (place_in (t ∷ ts) k ≡ length (t ∷ ts)) × AllByRecursion (λ (u : ℕ). k ≢ u) (t ∷ ts)
      at (inl is) rest = let e : (true || list_any (λ s. s == k) ts) ≡ false = sym (ap (λ (b : Bool). b || list_any (λ s. s == k) ts) (eq-eqb t k is)) ∙ h in absurd (no e)
        where
          no : true ≡ false → ⊥
          no e = cc
      at (inr other) rest =
          let r : (place_in ts k ≡ length ts) × AllByRecursion (λ (u : ℕ). k ≢ u) ts = rest (sym (ap (λ (b : Bool). b || list_any (λ s. s == k) ts) (not_same t k other)) ∙ h) in
          (ap (λ (b : Bool). if b then 0 else suc (place_in ts k)) (not_same t k other) ∙ ap suc r.0, ((λ e. other (sym e)), r.1))

  -- a thread that doesn't stand has no multipliers but 0
  absent_weights : (k : ℕ) (ps : List (ℕ × List ℕ)) → AllByRecursion (λ (p : ℕ × List ℕ). k ≢ p.0) ps → weights_of (zeros each) ps k ≡ zeros each
  absent_weights k [] h = refl
  absent_weights k (p ∷ ps) h = ap (λ (b : Bool). if b then p.1 else weights_of (zeros each) ps k) (not_same p.0 k (λ e. h.0 (sym e))) ∙ absent_weights k ps h.1

  abbrev pub AreKeys : List (ℕ × List ℕ) → Type 0
  AreKeys [] = Unit {0}
  AreKeys (p ∷ ps) = AllByRecursion (λ (q : ℕ × List ℕ). p.0 ≢ q.0) ps × AreKeys ps

  -- each thread counts once: in its slot, or among the others
  pub counted : (ts : List ℕ) → AreApart ts → (ps : List (ℕ × List ℕ)) → AreKeys ps → AreLong each ps →
      all_sums ts ps ≡ (slot_sums 0 ts (weights_of (zeros each) ps) +ℤ thread_sum (length ts) (weights_of_others (zeros each) ps ts))
  counted ts d [] k l = sym (both (slot_sums 0 ts (λ _. zeros each)) (thread_sum (length ts) (zeros each)) (no_sums 0 ts) (weighted_zeros (value v) (map (row_by (at_threads (length ts ∷ []))) each) each))
    where
      both : (x y : ℤ) → x ≡ pos 0 → y ≡ pos 0 → (x +ℤ y) ≡ pos 0
      both x y e f = omega (arith, ints, e, f)
  counted ts d (p ∷ ps) k l = at (list_any (λ s. s == p.0) ts) refl (counted ts d ps k.1 l.1)
    where
      in_slot : (x y s o w : ℤ) → y ≡ (s +ℤ o) → w ≡ (x +ℤ s) → (x +ℤ y) ≡ (w +ℤ o)
      in_slot x y s o w e f = omega (arith, ints, e, f)

      in_none : (x y s o a w : ℤ) → y ≡ (s +ℤ o) → w ≡ (x +ℤ o) → a ≡ s → (x +ℤ y) ≡ (a +ℤ w)
      in_none x y s o a w e f g = omega (arith, ints, e, f, g)

      at : (t : Bool) → list_any (λ s. s == p.0) ts ≡ t →
          all_sums ts ps ≡ (slot_sums 0 ts (weights_of (zeros each) ps) +ℤ thread_sum (length ts) (weights_of_others (zeros each) ps ts)) →
          (thread_sum (place_in ts p.0) p.1 +ℤ all_sums ts ps)
          ≡ (slot_sums 0 ts (weights_of (zeros each) (p ∷ ps)) +ℤ thread_sum (length ts) (if list_any (λ s. s == p.0) ts then weights_of_others (zeros each) ps ts else added p.1 (weights_of_others (zeros each) ps ts)))
      at true e ih =
          in_slot (thread_sum (place_in ts p.0) p.1) (all_sums ts ps) (slot_sums 0 ts (weights_of (zeros each) ps)) (thread_sum (length ts) (weights_of_others (zeros each) ps ts))
          (slot_sums 0 ts (set_to p.0 p.1 (weights_of (zeros each) ps))) ih
          (slot_set 0 p.0 p.1 (weights_of (zeros each) ps) ts d e (absent_weights p.0 ps k.0)
          ∙ ap (λ (s : ℕ). thread_sum s p.1 +ℤ slot_sums 0 ts (weights_of (zeros each) ps)) (let z : 0 + place_in ts p.0 ≡ place_in ts p.0 = omega arith in z))
          ∙ ap (λ (b : Bool). slot_sums 0 ts (weights_of (zeros each) (p ∷ ps)) +ℤ thread_sum (length ts) (if b then weights_of_others (zeros each) ps ts else added p.1 (weights_of_others (zeros each) ps ts))) (sym e)
      at false e ih =
          let r : (place_in ts p.0 ≡ length ts) × AllByRecursion (λ (u : ℕ). p.0 ≢ u) ts = absent_place ts p.0 e in
          in_none (thread_sum (place_in ts p.0) p.1) (all_sums ts ps) (slot_sums 0 ts (weights_of (zeros each) ps)) (thread_sum (length ts) (weights_of_others (zeros each) ps ts))
          (slot_sums 0 ts (set_to p.0 p.1 (weights_of (zeros each) ps))) (thread_sum (length ts) (added p.1 (weights_of_others (zeros each) ps ts))) ih
          (weighted_added (value v) (map (row_by (at_threads (length ts ∷ []))) each) p.1 (weights_of_others (zeros each) ps ts) (l.0 ∙ sym (others_long each ps ts l.1))
          ∙ ap (λ (s : ℕ). thread_sum s p.1 +ℤ thread_sum (length ts) (weights_of_others (zeros each) ps ts)) (sym r.0))
          (same_sums 0 ts (set_to p.0 p.1 (weights_of (zeros each) ps)) (weights_of (zeros each) ps) (unset p.0 p.1 (weights_of (zeros each) ps) ts r.1))
          ∙ ap (λ (b : Bool). slot_sums 0 ts (weights_of (zeros each) (p ∷ ps)) +ℤ thread_sum (length ts) (if b then weights_of_others (zeros each) ps ts else added p.1 (weights_of_others (zeros each) ps ts))) (sym e)

  -- ---- the rows of slots
  abbrev pub rows_from : ℕ → ℕ → List Row
  rows_from a zero = []
  rows_from a (suc n) = map (row_by (at_threads (a ∷ []))) each ++ rows_from (suc a) n

  from_there : (n a : ℕ) → rows_of_threads each a ++ rows_from a n ≡ rows_of_threads each (a + n)
  from_there zero a = append-nil (rows_of_threads each a) ∙ ap (rows_of_threads each) (let e : a ≡ a + 0 = omega arith in e)
  from_there (suc n) a =
      sym (append_assoc (rows_of_threads each a) (map (row_by (at_threads (a ∷ []))) each) (rows_from (suc a) n))
      ∙ (from_there n (suc a) ∙ ap (rows_of_threads each) (let e : suc a + n ≡ a + suc n = omega arith in e))

  pub rows_are : (n : ℕ) → rows_from 0 n ≡ rows_of_threads each n
  rows_are n = from_there n 0 ∙ ap (rows_of_threads each) (let e : 0 + n ≡ n = omega arith in e)

  pub slots_weighted : (a : ℕ) (ts : List ℕ) (W : ℕ → List ℕ) → ((t : ℕ) → length (W t) ≡ length each) →
      weighted (value v) (rows_from a (length ts)) (flat_map W ts) ≡ slot_sums a ts W
  slots_weighted a [] W h = refl
  slots_weighted a (t ∷ ts) W h =
      weighted_append (value v) (map (row_by (at_threads (a ∷ []))) each) (rows_from (suc a) (length ts)) (W t) (flat_map W ts) (h t ∙ sym (length-map each (row_by (at_threads (a ∷ [])))))
      ∙ ap (λ (z : ℤ). thread_sum a (W t) +ℤ z) (slots_weighted (suc a) ts W h)
