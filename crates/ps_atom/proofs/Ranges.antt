-- The canonical predicate of a row with declared variables is in range.
use Rattle.std.proofs.Common.{◌≡◌, ◌≢◌, ◌⊎◌, ◌≤◌, ◌<◌, ℕ, ℤ, pos, ◌*ℤ◌, Bool, true, false, List, [], ◌∷◌, length, All, slice_index, refl, sym, ◌∙◌, subst, inl, inr}
use Rattle.std.specs.List.{AllByRecursion}
use Rattle.std.proofs.lemmas.List.Elements.{All-from_recursion, recursion_from_All}
use Rattle.ps_term.specs.Pairs.{IsCanonical, coefficient}
use Rattle.ps_term.specs.Var.{var_eq}
use Rattle.ps_term.specs.declared.row.Row.{Row}
use Rattle.ps_term.specs.declared.var.Var.{Var}
use Rattle.ps_term.specs.declared.var.Var.TheVariants.{Global, Local, Havoc}
use Rattle.ps_term.proofs.Canonical.{IsBelowAll, IsBelowAll-canonical, coefficient-below, coefficient-other}
use Rattle.ps_term.proofs.Ring.{mul-zero}
use Rattle.ps_term.proofs.Uniqueness.{coefficient-first}
use Rattle.ps_term.proofs.Variables.{var_eq-true}
use Rattle.ps_atom.specs.Canonical.{IsCanonicalOf}
use Rattle.ps_atom.specs.Range.{IsDeclared, IsInRange, IsKnown}
use Rattle.ps_atom.specs.declared.predicate.Predicate.{Predicate}
use Rattle.ps_atom.proofs.Slotting.{lt_or}
use Rattle.ps_atom.proofs.Tightness.{cancel}

-- what holds of the variables of pairs holds of each one with a coefficient
standing : (P : Var → Type 0) (x : Var) (ps : List (Var × ℤ)) → AllByRecursion (λ p. P p.0) ps → coefficient x ps ≢ pos 0 → P x
standing P x [] h n = absurd (n refl)
standing P x (p ∷ ps) h n = by_test (λ m. standing P x ps h.1 m) (var_eq x p.0) refl
  where
    by_test : (coefficient x ps ≢ pos 0 → P x) → (t : Bool) → var_eq x p.0 ≡ t → P x
    by_test rest true e = subst P (sym (var_eq-true x p.0 e)) h.0
    by_test rest false e = rest (λ none. n (coefficient-other x p ps e ∙ none))

-- what holds of each variable with a coefficient holds of those of canonical pairs
at_pairs : (P : Var → Type 0) (ps : List (Var × ℤ)) → IsCanonical ps → ((x : Var) → coefficient x ps ≢ pos 0 → P x) → AllByRecursion (λ p. P p.0) ps
at_pairs P [] c h = tt
at_pairs P (p ∷ ps) c h =
    (h p.0 (λ none. c.0 (sym (coefficient-first p ps c) ∙ none)), at_pairs P ps c.2 (λ x n. h x (λ none. n (later x none (var_eq x p.0) refl))))
  where
    later : (x : Var) → coefficient x (p ∷ ps) ≡ pos 0 → (t : Bool) → var_eq x p.0 ≡ t → coefficient x ps ≡ pos 0
    later x none true e =
        coefficient-below x ps (subst (λ (y : Var). IsBelowAll y ps) (sym (var_eq-true x p.0 e)) (IsBelowAll-canonical p.0 ps c.1 c.2))
    later x none false e = sym (coefficient-other x p ps e) ∙ none

pub canonical_in_range : (globals locals : ℕ) (row : Row) (predicate : Predicate) (threads : List ℕ) → IsCanonicalOf row predicate threads → length threads ≤ 4 → All (λ pair. IsKnown globals locals pair.0) row.term.pairs → IsInRange globals locals predicate
canonical_in_range globals locals row predicate threads is few known =
    (subst (λ (n : ℕ). n ≤ 4) (sym is.in_slots.arity) few, All-from_recursion (λ p. IsDeclared globals locals predicate.arity p.0) predicate.row.term.pairs (at_pairs (IsDeclared globals locals predicate.arity) predicate.row.term.pairs is.in_slots.canonical declared))
  where
    -- a variable of the tightened row is one of the row
    tight_known : (x : Var) → coefficient x is.tight.term.pairs ≢ pos 0 → IsKnown globals locals x
    tight_known x n =
        standing (IsKnown globals locals) x row.term.pairs (recursion_from_All (λ p. IsKnown globals locals p.0) row.term.pairs known) (λ none. n (no_part is.tightened.factor (coefficient x is.tight.term.pairs) is.tightened.positive (sym (is.tightened.coefficients x) ∙ none)))
      where
        no_part : (f : ℕ) (z : ℤ) → 1 ≤ f → (pos f *ℤ z) ≡ pos 0 → z ≡ pos 0
        no_part f z h e = cancel f z (pos 0) h (e ∙ sym (mul-zero (pos f)))

    in_slot : (slot n : ℕ) → coefficient (Local slot n) predicate.row.term.pairs ≢ pos 0 → (slot < length threads) ⊎ (length threads ≤ slot) → (slot < predicate.arity) × (n < locals)
    in_slot slot n c (inl lt) =
        (subst (λ (k : ℕ). slot < k) (sym is.in_slots.arity) lt, tight_known (Local (slice_index threads slot) n) (λ none. c (is.in_slots.coefficients.slots slot n lt ∙ none)))
    in_slot slot n c (inr le) = absurd (c (is.in_slots.coefficients.beyond slot n le))

    declared : (x : Var) → coefficient x predicate.row.term.pairs ≢ pos 0 → IsDeclared globals locals predicate.arity x
    declared (Global n) c = tight_known (Global n) (λ none. c (is.in_slots.coefficients.globals n ∙ none))
    declared (Local slot n) c = in_slot slot n c (lt_or slot (length threads))
    declared (Havoc n) c = tight_known (Havoc n) (λ none. c (is.in_slots.coefficients.havocs n ∙ none))
