-- Searches in ascending lists of variables with terms.
use Rattle.std.proofs.Common.{◌≡◌, ◌⊎◌, ℕ, zero, suc, ◌+◌, ◌-◌, ◌<◌, ◌≤◌, Bool, true, false, IsTrue, List, [], ◌∷◌, length, get_or, ltb, drop, refl, sym, ap, ◌∙◌, subst, inl, inr, arith}
use Rattle.std.specs.List.Sorted.{IsPartitionedBy, IsPartitionPoint}
use Rattle.std.proofs.lemmas.Bool.{true≢false, cases_eq}
use Rattle.std.proofs.lemmas.Bool.Decides.{nat_tests}
use Rattle.std.proofs.lemmas.List.{drop_all, get_or_default}
use Rattle.ps_term.specs.inner.Named.{AreRising}
use Rattle.ps_term.specs.Substitution.{replacement}
use Rattle.ps_term.specs.Term.{variable_term}
use Rattle.ps_term.specs.Var.{var_eq, var_lt}
use Rattle.ps_term.specs.declared.term.Term.{Term}
use Rattle.ps_term.specs.declared.var.Var.{Var}
use Rattle.ps_term.proofs.Substitutions.{replacement-found}
use Rattle.ps_term.proofs.Variables.{var_gt-var_eq, var_lt-var_eq, var_lt_or_gt, var_lt_trans}

-- one more neighbour is in order
pub rising_more : (after : List (Var × Term)) (at : ℕ) (p q : Var × Term) → 0 < at → at < length after
    → ((i : ℕ) (d : Var × Term) → suc i < at → IsTrue (var_lt (get_or after i d).0 (get_or after (suc i) d).0))
    → p ≡ get_or after (at - 1) p → q ≡ get_or after at q → var_lt p.0 q.0 ≡ true
    → (i : ℕ) (d : Var × Term) → suc i < at + 1 → IsTrue (var_lt (get_or after i d).0 (get_or after (suc i) d).0)
rising_more after at p q z l so_far pis qis lt i d h = by_place (cases_eq (suc i) at)
  where
    by_place : (suc i ≡ at) ⊎ (suc i ≡ at → ⊥) → IsTrue (var_lt (get_or after i d).0 (get_or after (suc i) d).0)
    by_place (inl e) =
        let one : at - 1 ≡ i = omega arith in
        let first : get_or after i d ≡ p = get_or_default after i d p (omega arith) ∙ (ap (λ (k : ℕ). get_or after k p) (sym one) ∙ sym pis) in
        let second : get_or after (suc i) d ≡ q = get_or_default after (suc i) d q (omega arith) ∙ (ap (λ (k : ℕ). get_or after k q) e ∙ sym qis) in
        subst (λ (r : Var × Term). IsTrue (var_lt r.0 (get_or after (suc i) d).0)) (sym first) (subst (λ (r : Var × Term). IsTrue (var_lt p.0 r.0)) (sym second) lt)
    by_place (inr n) = so_far i d (omega arith)

-- each variable comes before all later ones
rises : (after : List (Var × Term)) → AreRising after → (i j : ℕ) (d : Var × Term) → i < j → j < length after → var_lt (get_or after i d).0 (get_or after j d).0 ≡ true
rises after r i zero d lt h = absurd (omega arith)
rises after r i (suc k) d lt h = by_place (λ l. rises after r i k d l (omega arith)) (cases_eq i k)
  where
    by_place : (i < k → var_lt (get_or after i d).0 (get_or after k d).0 ≡ true) → (i ≡ k) ⊎ (i ≡ k → ⊥) → var_lt (get_or after i d).0 (get_or after (suc k) d).0 ≡ true
    by_place before (inl e) =
        subst (λ (m : ℕ). var_lt (get_or after m d).0 (get_or after (suc k) d).0 ≡ true) (sym e) (r k d h)
    by_place before (inr n) =
        var_lt_trans (get_or after i d).0 (get_or after k d).0 (get_or after (suc k) d).0 (before (omega arith)) (r k d h)

pub parted_before : (x : Var) (after : List (Var × Term)) → AreRising after → IsPartitionedBy (λ p. var_lt p.0 x) after
parted_before x after r i j d le h up = by_place (cases_eq i j)
  where
    by_place : (i ≡ j) ⊎ (i ≡ j → ⊥) → var_lt (get_or after i d).0 x ≡ true
    by_place (inl e) = subst (λ (k : ℕ). var_lt (get_or after k d).0 x ≡ true) (sym e) up
    by_place (inr n) =
        var_lt_trans (get_or after i d).0 (get_or after j d).0 x (rises after r i j d (omega arith) h) up

-- ---- what stands before the place of a search doesn't matter
skipped : (x : Var) (after : List (Var × Term)) (i : ℕ) → ((k : ℕ) (d : Var × Term) → k < i → k < length after → var_eq x (get_or after k d).0 ≡ false) → replacement (drop i after) x ≡ replacement after x
skipped x after zero h = refl
skipped x [] (suc i) h = refl
skipped x (p ∷ ps) (suc i) h =
    let here : var_eq x p.0 ≡ false = h 0 p (omega arith) (omega arith) in
    skipped x ps i (λ k d lt within. h (suc k) d (omega arith) (omega arith)) ∙ rw here refl

pub found_at : (x : Var) (after : List (Var × Term)) (place : ℕ) (p : Var × Term) → IsPartitionPoint (λ q. var_lt q.0 x ≡ true) (λ q. var_lt q.0 x ≡ false) after place → place < length after → p ≡ get_or after place p → var_eq x p.0 ≡ true → p.1 ≡ replacement after x
found_at x after place p w l is same =
    replacement-found x after place p (skipped x after place (λ k d lt within. var_gt-var_eq (get_or after k d).0 x (w.0 k d (omega arith) lt))) l is same

nowhere : (x : Var) (after : List (Var × Term)) → ((k : ℕ) (d : Var × Term) → k < length after → var_eq x (get_or after k d).0 ≡ false) → variable_term x ≡ replacement after x
nowhere x after h =
    sym (ap (λ (ps : List (Var × Term)). replacement ps x) (drop_all (length after) after (omega arith))) ∙ skipped x after (length after) (λ k d lt within. h k d within)

pub past_all : (x : Var) (after : List (Var × Term)) (place : ℕ) → IsPartitionPoint (λ q. var_lt q.0 x ≡ true) (λ q. var_lt q.0 x ≡ false) after place → length after ≤ place → variable_term x ≡ replacement after x
past_all x after place w l =
    nowhere x after (λ k d within. var_gt-var_eq (get_or after k d).0 x (w.0 k d (omega arith) (omega arith)))

pub not_at : (x : Var) (after : List (Var × Term)) (place : ℕ) (p : Var × Term) → AreRising after → IsPartitionPoint (λ q. var_lt q.0 x ≡ true) (λ q. var_lt q.0 x ≡ false) after place → place < length after → p ≡ get_or after place p → var_eq x p.0 ≡ false → variable_term x ≡ replacement after x
not_at x after place p r w l is other = nowhere x after each
  where
    here : (d : Var × Term) → get_or after place d ≡ p
    here d = get_or_default after place d p l ∙ sym is

    below : var_lt x p.0 ≡ true
    below = by_test (var_lt x p.0) refl
      where
        back : var_lt p.0 x ≡ false
        back = subst (λ (q : Var × Term). var_lt q.0 x ≡ false) (here p) (w.1 place p (omega arith) l)

        by_test : (t : Bool) → var_lt x p.0 ≡ t → var_lt x p.0 ≡ true
        by_test true e = e
        by_test false e = absurd (true≢false (sym (var_lt_or_gt x p.0 other e) ∙ back))

    each : (k : ℕ) (d : Var × Term) → k < length after → var_eq x (get_or after k d).0 ≡ false
    each k d within = by_place (cases_eq k place) (ltb k place) refl
      where
        is_below : ltb k place ≡ true → k < place
        is_below g = grind (arith, nat_tests)

        isnt_below : ltb k place ≡ false → place ≤ k
        isnt_below g = grind (arith, nat_tests)

        by_place : (k ≡ place) ⊎ (k ≡ place → ⊥) → (t : Bool) → ltb k place ≡ t → var_eq x (get_or after k d).0 ≡ false
        by_place (inl e) t f =
            subst (λ (m : ℕ). var_eq x (get_or after m d).0 ≡ false) (sym e) (subst (λ (q : Var × Term). var_eq x q.0 ≡ false) (sym (here d)) other)
        by_place (inr n) true f =
            var_gt-var_eq (get_or after k d).0 x (w.0 k d (omega arith) (is_below f))
        by_place (inr n) false f =
            let later : place < k = omega (arith, n, isnt_below f) in
            var_lt-var_eq x (get_or after k d).0 (var_lt_trans x p.0 (get_or after k d).0 below (subst (λ (q : Var × Term). var_lt q.0 (get_or after k d).0 ≡ true) (here d) (rises after r place k d later within)))
