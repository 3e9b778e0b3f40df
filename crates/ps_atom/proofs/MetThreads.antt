-- The threads that are met in canonical pairs are those that occur, ascending.
use Rattle.std.proofs.Common.{◌≡◌, ◌≢◌, ◌⊎◌, ◌==◌, ◌+◌, ◌<◌, ◌≤◌, ℕ, ℤ, pos, Bool, true, false, List, [], ◌∷◌, Option, Some, None, Contains, if◌then◌else◌, refl, sym, ap, ◌∙◌, subst, inl, inr, suc, zero, arith}
use Rattle.std.specs.List.{AllByRecursion}
use Rattle.std.specs.List.Sorted.{IsStrictlyIncreasing}
use Rattle.std.proofs.lemmas.Bool.Decides.{nat_tests}
use Rattle.ps_list.proofs.Members.{nothing, cons_cases, here, there}
use Rattle.ps_term.specs.declared.var.Var.{Var}
use Rattle.ps_term.specs.declared.var.Var.TheVariants.{Global, Local, Havoc}
use Rattle.ps_term.specs.Var.{var_lt, var_eq}
use Rattle.ps_term.specs.Pairs.{IsCanonical, coefficient}
use Rattle.ps_term.proofs.Variables.{var_eq-true}
use Rattle.ps_term.proofs.Canonical.{IsBelowAll, IsBelowAll-canonical, coefficient-other, coefficient-below}
use Rattle.ps_term.proofs.Uniqueness.{coefficient-first}
use Rattle.ps_atom.specs.inner.Slots.{next_thread, threads_after}
use Rattle.ps_atom.specs.Threads.{Occurs}

-- each number is below all later ones
abbrev pub IsRising : List ℕ → Type 0
IsRising [] = Unit {0}
IsRising (x ∷ xs) = AllByRecursion (λ y. x < y) xs × IsRising xs

pub increasing_from_rising : (xs : List ℕ) → IsRising xs → IsStrictlyIncreasing xs
increasing_from_rising [] r k h = absurd (omega arith)
increasing_from_rising (x ∷ []) r k h = absurd (omega arith)
increasing_from_rising (x ∷ (y ∷ xs)) r zero h = r.0.0
increasing_from_rising (x ∷ (y ∷ xs)) r (suc k) h = let e : suc k + 1 ≡ suc (k + 1) = omega arith in rw e (increasing_from_rising (y ∷ xs) r.1 k (omega arith))

-- a local of the variable's thread isn't below the last thread
abbrev IsFrom : Option ℕ → Var → Type 0
IsFrom last (Global _) = Unit {0}
IsFrom None (Local t _) = Unit {0}
IsFrom (Some last) (Local t _) = last ≤ t
IsFrom last (Havoc _) = Unit {0}

abbrev IsAbove : Option ℕ → ℕ → Type 0
IsAbove None t = Unit {0}
IsAbove (Some last) t = last < t

-- what the next thread is
abbrev NextCases : Option ℕ → Var → Option ℕ → Type 0
NextCases last x next =
    ((next ≡ None) × ((t n : ℕ) → x ≡ Local t n → last ≡ Some t)) ⊎ ((t : ℕ) × (n : ℕ) × (next ≡ Some t) × (x ≡ Local t n) × IsAbove last t)

next_by : (last t n : ℕ) → last ≤ t → (b : Bool) → (t == last) ≡ b → NextCases (Some last) (Local t n) (if b then None else Some t)
next_by last t n le true e = inl (refl, λ u m is. (let s : t ≡ u = cc in let l : t ≡ last = grind (arith, nat_tests) in cc))
next_by last t n le false e = inr (t, n, refl, refl, grind (arith, nat_tests))

next_cases : (last : Option ℕ) (x : Var) → IsFrom last x → NextCases last x (next_thread last x)
next_cases None (Global m) f = inl (refl, λ t n e. cc)
next_cases (Some last) (Global m) f = inl (refl, λ t n e. cc)
next_cases None (Local t n) f = inr (t, n, refl, refl, tt)
next_cases (Some last) (Local t n) f = next_by last t n f (t == last) refl
next_cases None (Havoc m) f = inl (refl, λ t n e. cc)
next_cases (Some last) (Havoc m) f = inl (refl, λ t n e. cc)

from_below : (t n : ℕ) (x : Var) → var_lt (Local t n) x ≡ true → IsFrom (Some t) x
from_below t n (Global m) h = tt
from_below t n (Local s m) h = grind (arith, nat_tests)
from_below t n (Havoc m) h = tt

from_all : (t n : ℕ) (ps : List (Var × ℤ)) → IsBelowAll (Local t n) ps → AllByRecursion (λ p. IsFrom (Some t) p.0) ps
from_all t n [] h = tt
from_all t n (p ∷ ps) h = (from_below t n p.0 h.0, from_all t n ps h.1)

-- a variable of the rest isn't that of the first pair
pub coefficient-later : (x : Var) (p : Var × ℤ) (ps : List (Var × ℤ)) → IsCanonical (p ∷ ps) → coefficient x ps ≢ pos 0 → coefficient x (p ∷ ps) ≡ coefficient x ps
coefficient-later x p ps c h = by_test (var_eq x p.0) refl
  where
    by_test : (b : Bool) → var_eq x p.0 ≡ b → coefficient x (p ∷ ps) ≡ coefficient x ps
    by_test true e = absurd (h (coefficient-below x ps (subst (λ (y : Var). IsBelowAll y ps) (sym (var_eq-true x p.0 e)) (IsBelowAll-canonical p.0 ps c.1 c.2))))
    by_test false e = coefficient-other x p ps e

pub occurs_later : (p : Var × ℤ) (ps : List (Var × ℤ)) (t : ℕ) → IsCanonical (p ∷ ps) → Occurs ps t → Occurs (p ∷ ps) t
occurs_later p ps t c o = (o.0, λ e. o.1 (sym (coefficient-later (Local t o.0) p ps c o.1) ∙ e))

pub occurs_first : (p : Var × ℤ) (ps : List (Var × ℤ)) (t n : ℕ) → IsCanonical (p ∷ ps) → p.0 ≡ Local t n → Occurs (p ∷ ps) t
occurs_first p ps t n c is =
    (n, λ e. c.0 (sym (coefficient-first p ps c) ∙ (ap (λ (x : Var). coefficient x (p ∷ ps)) is ∙ e)))

-- a thread that occurs has the first pair or occurs in the rest
pub occurs_cases : (p : Var × ℤ) (ps : List (Var × ℤ)) (t : ℕ) → Occurs (p ∷ ps) t → ((n : ℕ) × (p.0 ≡ Local t n)) ⊎ Occurs ps t
occurs_cases p ps t o = by_test (var_eq (Local t o.0) p.0) refl
  where
    by_test : (b : Bool) → var_eq (Local t o.0) p.0 ≡ b → ((n : ℕ) × (p.0 ≡ Local t n)) ⊎ Occurs ps t
    by_test true e = inl (o.0, sym (var_eq-true (Local t o.0) p.0 e))
    by_test false e = inr (o.0, λ z. o.1 (coefficient-other (Local t o.0) p ps e ∙ z))

record IsMet (last : Option ℕ) (ps : List (Var × ℤ)) (ts : List ℕ) : Type 0 where
  pub above : AllByRecursion (λ t. IsAbove last t) ts
  pub rising : IsRising ts
  pub only : (t : ℕ) → Contains ts t → Occurs ps t
  pub every : (t : ℕ) → Occurs ps t → (last ≡ Some t) ⊎ Contains ts t

below_above : (last : Option ℕ) (t : ℕ) (ts : List ℕ) → IsAbove last t → AllByRecursion (λ u. IsAbove (Some t) u) ts → AllByRecursion (λ u. IsAbove last u) ts
below_above last t [] a h = tt
below_above None t (u ∷ ts) a h = (tt, below_above None t ts a h.1)
below_above (Some l) t (u ∷ ts) a h = (omega (arith, a, h.0), below_above (Some l) t ts a h.1)

met_same : (last : Option ℕ) (p : Var × ℤ) (ps : List (Var × ℤ)) (ts : List ℕ) → IsCanonical (p ∷ ps) → ((t n : ℕ) → p.0 ≡ Local t n → last ≡ Some t) → IsMet last ps ts → IsMet last (p ∷ ps) ts
met_same last p ps ts c old m = record {
  above = m.above;
  rising = m.rising;
  only = λ t h. occurs_later p ps t c (m.only t h);
  every = λ t o. elim (occurs_cases p ps t o) [ inl first ↦ inl (old t first.0 first.1) | inr rest ↦ m.every t rest ];
}

met_new : (last : Option ℕ) (p : Var × ℤ) (ps : List (Var × ℤ)) (ts : List ℕ) (t n : ℕ) → IsCanonical (p ∷ ps) → p.0 ≡ Local t n → IsAbove last t → IsMet (Some t) ps ts → IsMet last (p ∷ ps) (t ∷ ts)
met_new last p ps ts t n c is a m = record {
  above = (a, below_above last t ts a m.above);
  rising = (m.above, m.rising);
  only = λ u h. elim (cons_cases t ts u h) [ inl e ↦ subst (λ (v : ℕ). Occurs (p ∷ ps) v) e (occurs_first p ps t n c is) | inr rest ↦ occurs_later p ps u c (m.only u rest) ];
  every = λ u o. elim (occurs_cases p ps u o) [ inl first ↦ inr (let e : t ≡ u = cc in subst (λ (v : ℕ). Contains (t ∷ ts) v) e (here t ts)) | inr rest ↦ elim (m.every u rest) [ inl e ↦ inr (let f : t ≡ u = cc in subst (λ (v : ℕ). Contains (t ∷ ts) v) f (here t ts)) | inr h ↦ inr (there t ts u h) ] ];
}

met : (last : Option ℕ) (ps : List (Var × ℤ)) → IsCanonical ps → AllByRecursion (λ p. IsFrom last p.0) ps → IsMet last ps (threads_after last ps)
met last [] c f = record { above = tt; rising = tt; only = λ t h. absurd (nothing t h); every = λ t o. absurd (o.1 refl) }
met last (p ∷ ps) c f = elim (next_cases last p.0 f.0) [
  | inl none ↦ rw (none.0) (met_same last p ps (threads_after last ps) c none.1 (met last ps c.2 f.1))
  | inr new ↦ rw (new.2) (met_new last p ps (threads_after (Some new.0) ps) new.0 new.1 c new.3 new.4 (met (Some new.0) ps c.2 (from_all new.0 new.1 ps (subst (λ (x : Var). IsBelowAll x ps) new.3 (IsBelowAll-canonical p.0 ps c.1 c.2)))))
]

none_from : (ps : List (Var × ℤ)) → AllByRecursion (λ p. IsFrom None p.0) ps
none_from [] = tt
none_from ((Global m, c) ∷ ps) = (tt, none_from ps)
none_from ((Local t n, c) ∷ ps) = (tt, none_from ps)
none_from ((Havoc m, c) ∷ ps) = (tt, none_from ps)

pub met_rising : (ps : List (Var × ℤ)) → IsCanonical ps → IsRising (threads_after None ps)
met_rising ps c = (met None ps c (none_from ps)).rising

none_or : (t : ℕ) (ts : List ℕ) → (None ≡ Some t) ⊎ Contains ts t → Contains ts t
none_or t ts (inl e) = absurd (let f : ⊥ = cc in f)
none_or t ts (inr h) = h

pub met_occurring : (ps : List (Var × ℤ)) → IsCanonical ps → (t : ℕ) → (Contains (threads_after None ps) t → Occurs ps t) × (Occurs ps t → Contains (threads_after None ps) t)
met_occurring ps c t =
    let m = met None ps c (none_from ps) in
    ((λ h. m.only t h), (λ o. none_or t (threads_after None ps) (m.every t o)))
