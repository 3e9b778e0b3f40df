-- The places of the entries that aren't 0, marked one by one: what is marked, with what is left, is all.
use Rattle.std.proofs.Common.{◌≡◌, ◌≢◌, ℕ, zero, suc, ◌+◌, ◌/◌, ◌%◌, ◌<◌, ◌≤◌, ℤ, pos, negsuc, Bool, false, if◌then◌else◌, List, [], ◌∷◌, length, get_or, drop, replicate, unsigned_abs, refl, sym, ap, ◌∙◌, subst, arith, inl, inr, ◌⊎◌}
use Rattle.std.specs.Int.{bit_at, div_ceil}
use Rattle.std.proofs.lemmas.Bool.{cases_eq, cases_lt, ne_eqb}
use Rattle.std.proofs.lemmas.List.{drop_more, get_or-replicate, get_or_past, length-replicate}
use Rattle.std.proofs.lemmas.Nat.Bits.{bit_at-lt, bit_at-zero}
use Rattle.ps_elim.specs.inner.Entries.{AreEntries, entries_of, entry_at}
use Rattle.ps_elim.specs.inner.Words.{AreWordsOf, IsMarked, bit_of}
use Rattle.ps_elim.proofs.Bits.{bit_for}
use Rattle.ps_elim.proofs.Entries.{get_or-all_entries, length-entries_of}
use Rattle.ps_term.specs.Pairs.{IsCanonical, coefficient}
use Rattle.ps_term.specs.Var.{var_eq}
use Rattle.ps_term.specs.declared.term.Term.{Term}
use Rattle.ps_term.specs.declared.var.Var.{Var}
use Rattle.ps_term.specs.declared.var.Var.TheVariants.{Global}
use Rattle.ps_term.proofs.Canonical.{IsBelowAll, IsBelowAll-canonical, coefficient-other}
use Rattle.ps_term.proofs.Uniqueness.{coefficient-first}
use Rattle.ps_term.proofs.Variables.{var_gt-var_eq}

-- ---- a pair of a list has the coefficient of its variable, which isn't 0
below_at : (x : Var) (ps : List (Var × ℤ)) (i : ℕ) (d : Var × ℤ) → i < length ps → IsBelowAll x ps → var_eq (get_or ps i d).0 x ≡ false
below_at x [] i d l h = absurd (omega arith)
below_at x (p ∷ ps) zero d l h = var_gt-var_eq x p.0 h.0
below_at x (p ∷ ps) (suc i) d l h = below_at x ps i d (omega arith) h.1

pub standing : (ps : List (Var × ℤ)) (i : ℕ) (d : Var × ℤ) → i < length ps → IsCanonical ps → coefficient (get_or ps i d).0 ps ≡ (get_or ps i d).1
standing [] i d l c = absurd (omega arith)
standing (p ∷ ps) zero d l c = coefficient-first p ps c
standing (p ∷ ps) (suc i) d l c =
    coefficient-other (get_or ps i d).0 p ps (below_at p.0 ps i d (omega arith) (IsBelowAll-canonical p.0 ps c.1 c.2)) ∙ standing ps i d (omega arith) c.2

pub not_none : (ps : List (Var × ℤ)) (i : ℕ) (d : Var × ℤ) → i < length ps → IsCanonical ps → (get_or ps i d).1 ≢ pos 0
not_none [] i d l c = absurd (omega arith)
not_none (p ∷ ps) zero d l c = c.0
not_none (p ∷ ps) (suc i) d l c = not_none ps i d (omega arith) c.2

pub stands : (ps : List (Var × ℤ)) (i : ℕ) (d : Var × ℤ) → i < length ps → IsCanonical ps → coefficient (get_or ps i d).0 ps ≢ pos 0
stands ps i d l c e = not_none ps i d l c (sym (standing ps i d l c) ∙ e)

-- ---- the marks
pub record AreMarks (t : Term) (words : List ℕ) (rest : List (Var × ℤ)) : Type 0 where
  pub sound : (k : ℕ) → bit_of words k ≡ 1 → entry_at t k ≢ 0
  pub complete : (k : ℕ) → entry_at t k ≢ 0 → (bit_of words k ≡ 1) ⊎ (coefficient (Global k) rest ≢ pos 0)

zero_bits : (n k : ℕ) → bit_of (replicate n 0) k ≡ 0
zero_bits n k = ap (λ (i : ℕ). bit_at i (k % 64)) (by_word (cases_lt (k / 64) n)) ∙ bit_at-zero (k % 64)
  where
    by_word : (k / 64 < n) ⊎ (n ≤ k / 64) → get_or {A = ℕ} (replicate n 0) (k / 64) 0 ≡ 0
    by_word (inl l) = get_or-replicate n (k / 64) 0 0 l
    by_word (inr g) = get_or_past (replicate n 0) (k / 64) 0 (omega (arith, g, length-replicate {A = ℕ} n 0))

pub AreMarks-start : (t : Term) (n : ℕ) → AreMarks t (replicate n 0) t.pairs
AreMarks-start t n = record {
  sound = λ k e. absurd (let none : bit_of (replicate n 0) k ≡ 0 = zero_bits n k in omega (arith, e, none));
  complete = λ k some. inr (λ e. some (ap unsigned_abs e));
}

magnitude_zero : (z : ℤ) → unsigned_abs z ≡ 0 → z ≡ pos 0
magnitude_zero (pos n) e = ap pos e
magnitude_zero (negsuc n) e = absurd (omega (arith, e))

pub AreMarks-step : (t : Term) (old new : List ℕ) (i place : ℕ) (p : Var × ℤ) → IsCanonical t.pairs → i < length t.pairs → p ≡ get_or t.pairs i p → p.0 ≡ Global place → IsMarked old new place → AreMarks t old (drop i t.pairs) → AreMarks t new (drop (i + 1) t.pairs)
AreMarks-step t old new i place p c l is at m h = record {
  sound = λ k e. sound k e (cases_eq k place);
  complete = λ k some. complete k (cases_eq k place) (h.complete k some);
}
  where
    here : entry_at t place ≢ 0
    here e =
        let first : coefficient p.0 t.pairs ≢ pos 0 = subst (λ (q : Var × ℤ). coefficient q.0 t.pairs ≢ pos 0) (sym is) (stands t.pairs i p l c) in
        first (ap (λ (x : Var). coefficient x t.pairs) at ∙ magnitude_zero (coefficient (Global place) t.pairs) e)

    sound : (k : ℕ) → bit_of new k ≡ 1 → (k ≡ place) ⊎ (k ≡ place → ⊥) → entry_at t k ≢ 0
    sound k e (inl same) = subst (λ (n : ℕ). entry_at t n ≢ 0) (sym same) here
    sound k e (inr other) = h.sound k (sym (m.others k other) ∙ e)

    front : drop i t.pairs ≡ p ∷ drop (i + 1) t.pairs
    front = drop_more t.pairs i p l ∙ ap (λ (q : Var × ℤ). q ∷ drop (i + 1) t.pairs) (sym is)

    complete : (k : ℕ) → (k ≡ place) ⊎ (k ≡ place → ⊥) → (bit_of old k ≡ 1) ⊎ (coefficient (Global k) (drop i t.pairs) ≢ pos 0) → (bit_of new k ≡ 1) ⊎ (coefficient (Global k) (drop (i + 1) t.pairs) ≢ pos 0)
    complete k (inl same) either = inl (ap (λ (n : ℕ). bit_of new n) same ∙ m.here)
    complete k (inr other) (inl bit) = inl (m.others k other ∙ bit)
    complete k (inr other) (inr some) =
        let apart : var_eq (Global k) p.0 ≡ false = ap (λ (x : Var). var_eq (Global k) x) at ∙ ne_eqb k place other in
        inr (λ e. some (ap (λ (ps : List (Var × ℤ)). coefficient (Global k) ps) front ∙ (coefficient-other (Global k) p (drop (i + 1) t.pairs) apart ∙ e)))

marked : (words : List ℕ) (k n : ℕ) → (bit_of words k ≡ 1 → n ≢ 0) → (n ≢ 0 → bit_of words k ≡ 1) → bit_of words k ≡ bit_for n
marked words k zero sound complete =
    let small : bit_of words k < 2 = bit_at-lt (get_or words (k / 64) 0) (k % 64) in
    let not_one : bit_of words k ≢ 1 = λ e. sound e refl in
    omega (arith, small, not_one)
marked words k (suc n) sound complete =
    let some : suc n ≢ 0 = λ e. omega (arith, e) in
    complete some ∙ ap (λ (t : Bool). if t then 0 else 1) (sym (ne_eqb (suc n) 0 some))

pub AreMarks-end : (t : Term) (places : ℕ) (words : List ℕ) → AreEntries t places → length words ≡ div_ceil places 64 → AreMarks t words [] → AreWordsOf (entries_of t places) words
AreMarks-end t places words h enough m = record {
  enough = enough ∙ ap (λ (n : ℕ). div_ceil n 64) (sym (length-entries_of t places));
  bits = λ k. marked words k (entry_at t k) (m.sound k) (λ some. done k (m.complete k some)) ∙ ap bit_for (sym (get_or-all_entries t places k h));
}
  where
    done : (k : ℕ) → (bit_of words k ≡ 1) ⊎ (coefficient (Global k) [] ≢ pos 0) → bit_of words k ≡ 1
    done k (inl bit) = bit
    done k (inr some) = absurd (some refl)
