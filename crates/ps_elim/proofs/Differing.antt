-- The order of vectors by their entries that aren't 0 is the lexicographic one.
use Rattle.std.proofs.Common.{◌≡◌, ◌≢◌, ℕ, zero, suc, ◌<◌, ◌==◌, nat_lt, ℤ, pos, ◌+ℤ◌, ◌<ℤ◌, ◌≤ℤ◌, int_lt, Bool, true, false, ◌||◌, ◌&&◌, List, [], ◌∷◌, ◌++◌, length, get_or, map, unsigned_abs, refl, sym, ap, ap₂, ◌∙◌, subst, subst₂, arith}
use Rattle.std.specs.List.{range_with_len}
use Rattle.std.specs.Ordering.{int_eq}
use Rattle.std.proofs.lemmas.Bool.{false≢true}
use Rattle.std.proofs.lemmas.Bool.Decides.{Decides-int_eq, nat_tests}
use Rattle.std.proofs.lemmas.Int.{ints}
use Rattle.std.proofs.lemmas.List.{append_assoc, length-append}
use Rattle.std.proofs.Math.Seq.{get_or-append_seam}
use Rattle.ps_elim.specs.Supports.{is_less}
use Rattle.ps_elim.specs.inner.Entries.{AreEntries, IsPlace, entries_of, entry_at}
use Rattle.ps_elim.specs.inner.Lexicographic.{comes_before}
use Rattle.ps_elim.proofs.Entries.{coefficient_is, get_or-entries_of, length-entries_of}
use Rattle.ps_elim.proofs.Order.{is_less-irreflexive, is_less-trans}
use Rattle.ps_elim.proofs.Placing.{not_none, standing}
use Rattle.ps_term.specs.Pairs.{IsCanonical, coefficient}
use Rattle.ps_term.specs.Var.{var_eq, var_lt}
use Rattle.ps_term.specs.declared.term.Term.{Term}
use Rattle.ps_term.specs.declared.var.Var.{Var}
use Rattle.ps_term.specs.declared.var.Var.TheVariants.{Global, Local, Havoc}
use Rattle.ps_term.proofs.Canonical.{IsBelowAll-canonical, IsCanonical-suffix, coefficient-below}
use Rattle.ps_term.proofs.Lookups.{coefficient-append}
use Rattle.ps_term.proofs.Uniqueness.{coefficient-first}
use Rattle.ps_term.proofs.Variables.{var_eq-true, var_eq_refl, var_lt_or_gt, var_lt_trans}

-- ---- the first entry in which two vectors differ decides
less_first : (m n : ℕ) (r : Bool) → m < n → (nat_lt m n || (m == n && r)) ≡ true
less_first m n true h = grind (arith, nat_tests)
less_first m n false h = grind (arith, nat_tests)

less_later : (m n : ℕ) (r : Bool) → m ≡ n → r ≡ true → (nat_lt m n || (m == n && r)) ≡ true
less_later m n true h e = grind (arith, nat_tests)
less_later m n false h e = absurd (false≢true e)

less_at : (u v : List ℕ) (k : ℕ) → length u ≡ length v → k < length u → ((j : ℕ) → j < k → get_or u j 0 ≡ get_or v j 0) → get_or u k 0 < get_or v k 0 → is_less u v ≡ true
less_at [] v k e l same h = absurd (omega arith)
less_at (m ∷ u) [] k e l same h = absurd (omega arith)
less_at (m ∷ u) (n ∷ v) zero e l same h = less_first m n (is_less u v) h
less_at (m ∷ u) (n ∷ v) (suc k) e l same h =
    less_later m n (is_less u v) (same 0 (omega arith)) (less_at u v k (omega arith) (omega arith) (λ j b. same (suc j) (omega arith)) h)

not_less : (u v : List ℕ) → is_less v u ≡ true → is_less u v ≡ false
not_less u v h = by_test (is_less u v) refl
  where
    by_test : (t : Bool) → is_less u v ≡ t → t ≡ false
    by_test false e = refl
    by_test true e = absurd (false≢true (sym (is_less-irreflexive u) ∙ is_less-trans u v u e h))

-- ---- a pair after those that the two have in common
none_below : (x : Var) (p : Var × ℤ) (ps : List (Var × ℤ)) → IsCanonical (p ∷ ps) → var_lt x p.0 ≡ true → coefficient x (p ∷ ps) ≡ pos 0
none_below x p ps c h = coefficient-below x (p ∷ ps) (IsBelowAll-canonical x (p ∷ ps) h c)

entry_less : (s t : Term) (n k : ℕ) → AreEntries s n → AreEntries t n → coefficient (Global k) s.pairs <ℤ coefficient (Global k) t.pairs → entry_at s k < entry_at t k
entry_less s t n k h g l =
    let less : pos (entry_at s k) <ℤ pos (entry_at t k) = subst₂ (λ (x y : ℤ). x <ℤ y) (coefficient_is s n h k) (coefficient_is t n g k) l in
    omega (arith, ints, less)

-- the second vector has more at the variable of the pair, and before it the two are alike
leads : (s t : Term) (n : ℕ) → AreEntries s n → AreEntries t n → IsCanonical t.pairs → (c a : List (Var × ℤ)) (q : Var × ℤ) (qs : List (Var × ℤ)) → s.pairs ≡ c ++ a → t.pairs ≡ c ++ q ∷ qs → ((x : Var) → var_lt x q.0 ≡ true → coefficient x a ≡ pos 0) → coefficient q.0 a <ℤ q.1 → is_less (entries_of s n) (entries_of t n) ≡ true
leads s t n h g canonical c a q qs e f below more = at_place q.0 refl (g.within q.0 some)
  where
    suffix : IsCanonical (q ∷ qs)
    suffix = IsCanonical-suffix c (q ∷ qs) (subst (λ (ps : List (Var × ℤ)). IsCanonical ps) f canonical)

    first : (x : Var) → coefficient x s.pairs ≡ (coefficient x c +ℤ coefficient x a)
    first x = ap (λ (ps : List (Var × ℤ)). coefficient x ps) e ∙ coefficient-append x c a

    second : (x : Var) → coefficient x t.pairs ≡ (coefficient x c +ℤ coefficient x (q ∷ qs))
    second x = ap (λ (ps : List (Var × ℤ)). coefficient x ps) f ∙ coefficient-append x c (q ∷ qs)

    greater : coefficient q.0 s.pairs <ℤ coefficient q.0 t.pairs
    greater = omega (arith, ints, first q.0, second q.0, coefficient-first q qs suffix, more)

    some : coefficient q.0 t.pairs ≢ pos 0
    some none = omega (arith, ints, greater, none, h.positive q.0)

    alike : (x : Var) → var_lt x q.0 ≡ true → coefficient x s.pairs ≡ coefficient x t.pairs
    alike x l = first x ∙ (ap (λ (z : ℤ). coefficient x c +ℤ z) (below x l ∙ sym (none_below x q qs suffix l)) ∙ sym (second x))

    at_place : (x : Var) → x ≡ q.0 → IsPlace x n → is_less (entries_of s n) (entries_of t n) ≡ true
    at_place (Global k) same l =
        let less : entry_at s k < entry_at t k = entry_less s t n k h g (subst (λ (y : Var). coefficient y s.pairs <ℤ coefficient y t.pairs) (sym same) greater) in
        less_at (entries_of s n) (entries_of t n) k (length-entries_of s n ∙ sym (length-entries_of t n)) (omega (arith, l, length-entries_of s n)) (λ j b. before k j l b same) (subst₂ (λ (x y : ℕ). x < y) (sym (get_or-entries_of s n k 0 l)) (sym (get_or-entries_of t n k 0 l)) less)
      where
        before : (k j : ℕ) → k < n → j < k → Global k ≡ q.0 → get_or (entries_of s n) j 0 ≡ get_or (entries_of t n) j 0
        before k j l b same =
            let earlier : var_lt (Global j) q.0 ≡ true = subst (λ (y : Var). var_lt (Global j) y ≡ true) same (grind (arith, nat_tests)) in
            get_or-entries_of s n j 0 (omega arith) ∙ (ap unsigned_abs (alike (Global j) earlier) ∙ sym (get_or-entries_of t n j 0 (omega arith)))
    at_place (Local i m) same l = absurd l
    at_place (Havoc m) same l = absurd l

-- a pair that stands is positive
front_positive : (t : Term) (n : ℕ) → AreEntries t n → IsCanonical t.pairs → (c : List (Var × ℤ)) (q : Var × ℤ) (qs : List (Var × ℤ)) → t.pairs ≡ c ++ q ∷ qs → pos 0 <ℤ q.1
front_positive t n h canonical c q qs f =
    let all : IsCanonical (c ++ q ∷ qs) = subst (λ (ps : List (Var × ℤ)). IsCanonical ps) f canonical in
    let within : length c < length (c ++ q ∷ qs) = omega (arith, length-append c (q ∷ qs)) in
    let seam : get_or (c ++ q ∷ qs) (length c) q ≡ q = get_or-append_seam c q qs q in
    let is : coefficient q.0 (c ++ q ∷ qs) ≡ q.1 = subst (λ (p : Var × ℤ). coefficient p.0 (c ++ q ∷ qs) ≡ p.1) seam (standing (c ++ q ∷ qs) (length c) q within all) in
    let some : q.1 ≢ pos 0 = subst (λ (p : Var × ℤ). p.1 ≢ pos 0) seam (not_none (c ++ q ∷ qs) (length c) q within all) in
    let least : pos 0 ≤ℤ q.1 = subst (λ (z : ℤ). pos 0 ≤ℤ z) (ap (λ (ps : List (Var × ℤ)). coefficient q.0 ps) f ∙ is) (h.positive q.0) in
    omega (arith, ints, some, least)

-- ---- the order
same_entries : (s t : Term) (n : ℕ) → s.pairs ≡ t.pairs → entries_of s n ≡ entries_of t n
same_entries s t n e = ap (λ (ps : List (Var × ℤ)). map (λ k. unsigned_abs (coefficient (Global k) ps)) (range_with_len 0 n)) e

variables_swap : (x y : Var) → var_eq x y ≡ false → var_eq y x ≡ false
variables_swap x y e = by_test (var_eq y x) refl
  where
    by_test : (t : Bool) → var_eq y x ≡ t → t ≡ false
    by_test false f = refl
    by_test true f = absurd (false≢true (sym e ∙ (ap (λ (z : Var). var_eq x z) (var_eq-true y x f) ∙ var_eq_refl x)))

pub before_is : (s t : Term) (n : ℕ) → AreEntries s n → AreEntries t n → IsCanonical s.pairs → IsCanonical t.pairs → (c a b : List (Var × ℤ)) → s.pairs ≡ c ++ a → t.pairs ≡ c ++ b → comes_before a b ≡ is_less (entries_of s n) (entries_of t n)
before_is s t n h g x y c [] [] e f =
    sym (subst (λ (u : List ℕ). is_less (entries_of s n) u ≡ false) (same_entries s t n (e ∙ sym f)) (is_less-irreflexive (entries_of s n)))
before_is s t n h g x y c [] (q ∷ qs) e f =
    sym (leads s t n h g y c [] q qs e f (λ z l. refl) (front_positive t n g y c q qs f))
before_is s t n h g x y c (p ∷ ps) [] e f =
    sym (not_less (entries_of s n) (entries_of t n) (leads t s n g h x c [] p ps f e (λ z l. refl) (front_positive s n h x c p ps e)))
before_is s t n h g x y c (p ∷ ps) (q ∷ qs) e f =
    by_tests (var_lt q.0 p.0) (var_eq p.0 q.0) (int_lt p.1 q.1) (int_eq p.1 q.1) refl refl refl refl (λ same. before_is s t n h g x y (c ++ p ∷ []) ps qs (e ∙ sym (append_assoc c (p ∷ []) ps)) (f ∙ (ap (λ (r : Var × ℤ). c ++ r ∷ qs) (sym same) ∙ sym (append_assoc c (p ∷ []) qs))))
  where
    left : IsCanonical (p ∷ ps)
    left = IsCanonical-suffix c (p ∷ ps) (subst (λ (rs : List (Var × ℤ)). IsCanonical rs) e x)

    right : IsCanonical (q ∷ qs)
    right = IsCanonical-suffix c (q ∷ qs) (subst (λ (rs : List (Var × ℤ)). IsCanonical rs) f y)

    by_tests : (t1 t2 t3 t4 : Bool) → var_lt q.0 p.0 ≡ t1 → var_eq p.0 q.0 ≡ t2 → int_lt p.1 q.1 ≡ t3 → int_eq p.1 q.1 ≡ t4 → (p ≡ q → comes_before ps qs ≡ is_less (entries_of s n) (entries_of t n)) → ((t1 || (t2 && t3)) || ((t2 && t4) && comes_before ps qs)) ≡ is_less (entries_of s n) (entries_of t n)
    by_tests true t2 t3 t4 d1 d2 d3 d4 rest =
        let none : coefficient q.0 (p ∷ ps) ≡ pos 0 = none_below q.0 p ps left d1 in
        sym (leads s t n h g y c (p ∷ ps) q qs e f (λ z l. none_below z p ps left (var_lt_trans z q.0 p.0 l d1)) (omega (arith, ints, none, front_positive t n g y c q qs f)))
    by_tests false false t3 t4 d1 d2 d3 d4 rest =
        let later : var_lt p.0 q.0 ≡ true = var_lt_or_gt q.0 p.0 (variables_swap p.0 q.0 d2) d1 in
        let none : coefficient p.0 (q ∷ qs) ≡ pos 0 = none_below p.0 q qs right later in
        sym (not_less (entries_of s n) (entries_of t n) (leads t s n g h x c (q ∷ qs) p ps f e (λ z l. none_below z q qs right (var_lt_trans z p.0 q.0 l later)) (omega (arith, ints, none, front_positive s n h x c p ps e))))
    by_tests false true true t4 d1 d2 d3 d4 rest =
        let same : p.0 ≡ q.0 = var_eq-true p.0 q.0 d2 in
        let first : coefficient q.0 (p ∷ ps) ≡ p.1 = ap (λ (z : Var). coefficient z (p ∷ ps)) (sym same) ∙ coefficient-first p ps left in
        sym (leads s t n h g y c (p ∷ ps) q qs e f (λ z l. none_below z p ps left (subst (λ (w : Var). var_lt z w ≡ true) (sym same) l)) (omega (arith, ints, first, d3)))
    by_tests false true false true d1 d2 d3 d4 rest =
        rest (ap₂ (λ (w : Var) (z : ℤ). (w, z)) (var_eq-true p.0 q.0 d2) ((Decides-int_eq p.1 q.1).0 d4))
    by_tests false true false false d1 d2 d3 d4 rest =
        let same : p.0 ≡ q.0 = var_eq-true p.0 q.0 d2 in
        let first : coefficient p.0 (q ∷ qs) ≡ q.1 = ap (λ (z : Var). coefficient z (q ∷ qs)) same ∙ coefficient-first q qs right in
        let differ : p.1 ≢ q.1 = λ d. false≢true (sym d4 ∙ (Decides-int_eq p.1 q.1).1 d) in
        sym (not_less (entries_of s n) (entries_of t n) (leads t s n g h x c (q ∷ qs) p ps f e (λ z l. none_below z q qs right (subst (λ (w : Var). var_lt z w ≡ true) same l)) (omega (arith, ints, first, d3, differ))))
