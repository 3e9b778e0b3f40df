-- What renamed rows are worth, and how their pairs are made from the last to the first.
use Rattle.std.proofs.Common.{◌≡◌, ◌≢◌, ◌<◌, ℕ, zero, suc, ℤ, pos, ◌+ℤ◌, ◌*ℤ◌, Bool, true, false, Ordering, List, [], ◌∷◌, length, get_or, drop, if◌then◌else◌, refl, ap, ◌∙◌, All, AllPairs, arith}
use Rattle.std.specs.BTreeMap.{insert_entry}
use Rattle.std.specs.List.{AllByRecursion}
use Rattle.std.specs.Ordering.{int_eq, match_ordering}
use Rattle.std.proofs.lemmas.Bool.{true≢false}
use Rattle.std.proofs.lemmas.Int.{ints}
use Rattle.std.proofs.lemmas.List.Elements.{recursion_from_All}
use Rattle.ps_term.proofs.Comparing.{by_order, cmp_is}
use Rattle.ps_term.proofs.ExactTerms.{pair_value, pair_canonical}
use Rattle.ps_term.proofs.Variables.{var_eq-true}
use Rattle.ps_term.specs.contracts.var.VarOrd.TheImpl as var_ord
use Rattle.ps_term.specs.Exact.{kept_before, with_pair}
use Rattle.ps_term.specs.Pairs.{IsCanonical, pairs_value}
use Rattle.ps_term.specs.Term.{value}
use Rattle.ps_term.specs.Var.{var_eq, var_lt}
use Rattle.ps_term.specs.declared.row.Row.{Row}
use Rattle.ps_term.specs.declared.var.Var.{Var}
use Rattle.ps_atom.proofs.Chains.{IsChain}
use Rattle.ps_atom.specs.Atoms.{at_threads, IsOfSlots}
use Rattle.ps_triple.proofs.Apart.{pairs_apart}
use Rattle.ps_triple.specs.Places.{pairs_by, row_by}

pairs_worth : (new : Var → Var) (v : Var → ℤ) (ps : List (Var × ℤ)) → pairs_value v (pairs_by new ps) ≡ pairs_value (λ x. v (new x)) ps
pairs_worth new v [] = refl
pairs_worth new v (p ∷ ps) = pair_value v (new p.0) p.1 (pairs_by new ps) ∙ ap (λ (z : ℤ). (p.1 *ℤ v (new p.0)) +ℤ z) (pairs_worth new v ps)

pub pairs_canonical : (new : Var → Var) (ps : List (Var × ℤ)) → IsCanonical (pairs_by new ps)
pairs_canonical new [] = tt
pairs_canonical new (p ∷ ps) = pair_canonical (new p.0) p.1 (pairs_by new ps) (pairs_canonical new ps)

-- a renamed row is worth the row at the values of the new variables
pub row_worth : (new : Var → Var) (v : Var → ℤ) (r : Row) → value v (row_by new r).term ≡ value (λ x. v (new x)) r.term
row_worth new v r = ap (λ (z : ℤ). z +ℤ r.term.constant) (pairs_worth new v r.term.pairs)

-- ---- the map

-- the order of variables, as maps have it
abbrev pub var_cmp : Var → Var → Ordering
var_cmp = (var_ord.ghosts).cmp

-- the list with this number for the variable, as a map enters it
abbrev entered : Var → ℤ → List (Var × ℤ) → List (Var × ℤ)
entered x n [] = (x, n) ∷ []
entered x n (p ∷ ps) = if var_eq x p.0 then (p.0, n) ∷ ps else (if var_lt x p.0 then (x, n) ∷ p ∷ ps else p ∷ entered x n ps)

entered_is : (x : Var) (n : ℤ) (ps : List (Var × ℤ)) → insert_entry var_cmp ps x n ≡ entered x n ps
entered_is x n [] = refl
entered_is x n (p ∷ ps) =
    ap (λ (o : Ordering). match_ordering o ((x, n) ∷ p ∷ ps) ((p.0, n) ∷ ps) (p ∷ insert_entry var_cmp ps x n)) (cmp_is x p.0)
    ∙ by_order (var_eq x p.0) (var_lt x p.0) ((x, n) ∷ p ∷ ps) ((p.0, n) ∷ ps) (p ∷ insert_entry var_cmp ps x n) (p ∷ entered x n ps) (ap (λ (qs : List (Var × ℤ)). p ∷ qs) (entered_is x n ps))

-- ---- a pair of a variable that doesn't stand among the others
abbrev pub IsFresh : Var → List (Var × ℤ) → Type 0
IsFresh x ps = AllByRecursion (λ (q : Var × ℤ). var_eq x q.0 ≡ false) ps

not_same : (x y : Var) → x ≢ y → var_eq x y ≡ false
not_same x y h = at (var_eq x y) refl
  where
    at : (t : Bool) → var_eq x y ≡ t → var_eq x y ≡ false
    at true e = absurd (h (var_eq-true x y e))
    at false e = e

kept : (x : Var) (n : ℤ) (ps : List (Var × ℤ)) → n ≢ pos 0 → (x, n) ∷ ps ≡ kept_before x n ps
kept x n ps h = at (int_eq n (pos 0)) refl
  where
    at : (t : Bool) → int_eq n (pos 0) ≡ t → (x, n) ∷ ps ≡ (if t then ps else (x, n) ∷ ps)
    at true e = absurd (h (is_zero n e))
      where
        is_zero : (m : ℤ) → int_eq m (pos 0) ≡ true → m ≡ pos 0
        is_zero m e = grind (arith, ints)
    at false e = refl

with_fresh : (x : Var) (n : ℤ) (ps : List (Var × ℤ)) → IsFresh x ps → n ≢ pos 0 → entered x n ps ≡ with_pair x n ps
with_fresh x n [] f h = kept x n [] h
with_fresh x n (p ∷ ps) f h = by_tests (var_eq x p.0) f.0 (var_lt x p.0) (with_fresh x n ps f.1 h)
  where
    by_tests : (t : Bool) → t ≡ false → (u : Bool) → entered x n ps ≡ with_pair x n ps →
        (if t then (p.0, n) ∷ ps else (if u then (x, n) ∷ p ∷ ps else p ∷ entered x n ps))
        ≡ (if t then kept_before x (n +ℤ p.1) ps else if u then kept_before x n (p ∷ ps) else p ∷ with_pair x n ps)
    by_tests true e u r = absurd (true≢false e)
    by_tests false e true r = kept x n (p ∷ ps) h
    by_tests false e false r = ap (λ (qs : List (Var × ℤ)). p ∷ qs) r

fresh_kept : (x y : Var) (n : ℤ) (ps : List (Var × ℤ)) → var_eq x y ≡ false → IsFresh x ps → IsFresh x (kept_before y n ps)
fresh_kept x y n ps e f = at (int_eq n (pos 0))
  where
    at : (t : Bool) → IsFresh x (if t then ps else (y, n) ∷ ps)
    at true = f
    at false = (e, f)

fresh_with : (x y : Var) (n : ℤ) (ps : List (Var × ℤ)) → var_eq x y ≡ false → IsFresh x ps → IsFresh x (with_pair y n ps)
fresh_with x y n [] e f = fresh_kept x y n [] e tt
fresh_with x y n (p ∷ ps) e f = at (var_eq y p.0) (var_lt y p.0) (fresh_with x y n ps e f.1)
  where
    at : (t u : Bool) → IsFresh x (with_pair y n ps) → IsFresh x (if t then kept_before y (n +ℤ p.1) ps else if u then kept_before y n (p ∷ ps) else p ∷ with_pair y n ps)
    at true u r = fresh_kept x y (n +ℤ p.1) ps e f.1
    at false true r = fresh_kept x y n (p ∷ ps) e f
    at false false r = (f.0, r)

fresh_in : (new : Var → Var) (x : Var) (qs : List (Var × ℤ)) → AllByRecursion (λ (q : Var × ℤ). x ≢ new q.0) qs → IsFresh x (pairs_by new qs)
fresh_in new x [] h = tt
fresh_in new x (q ∷ qs) h = fresh_with x (new q.0) q.1 (pairs_by new qs) (not_same x (new q.0) h.0) (fresh_in new x qs h.1)

-- ---- one pair more, before those that were taken
abbrev pub AreApart : (Var → Var) → List (Var × ℤ) → Type 0
AreApart new ps = IsChain (λ (p q : Var × ℤ). new p.0 ≢ new q.0) ps

one_more : (new : Var → Var) (ps : List (Var × ℤ)) (i : ℕ) (d : Var × ℤ) → AreApart new ps → IsCanonical ps → i < length ps →
    entered (new (get_or ps i d).0) (get_or ps i d).1 (pairs_by new (drop (suc i) ps)) ≡ pairs_by new (drop i ps)
one_more new [] i d a c l = let none : ⊥ = omega (arith, l) in absurd none
one_more new (p ∷ ps) zero d a c l = with_fresh (new p.0) p.1 (pairs_by new ps) (fresh_in new (new p.0) ps a.0) c.0
one_more new (p ∷ ps) (suc i) d a c l = one_more new ps i d a.1 c.2 (omega (arith, l))

pub taken_more : (new : Var → Var) (ps entries : List (Var × ℤ)) (i after : ℕ) (d : Var × ℤ) → AreApart new ps → IsCanonical ps → i < length ps → after ≡ suc i →
    entries ≡ pairs_by new (drop after ps) → insert_entry var_cmp entries (new (get_or ps i d).0) (get_or ps i d).1 ≡ pairs_by new (drop i ps)
taken_more new ps entries i after d a c l e is =
    entered_is (new (get_or ps i d).0) (get_or ps i d).1 entries
    ∙ (ap (λ (qs : List (Var × ℤ)). entered (new (get_or ps i d).0) (get_or ps i d).1 qs) (is ∙ ap (λ (n : ℕ). pairs_by new (drop n ps)) e)
    ∙ one_more new ps i d a c l)

-- with threads for slots
pub slots_apart : (ts : List ℕ) (ps : List (Var × ℤ)) → AllPairs (λ (s t : ℕ). s ≢ t) ts → IsCanonical ps → All (λ (p : Var × ℤ). IsOfSlots (length ts) p.0) ps → AreApart (at_threads ts) ps
slots_apart ts ps distinct canonical slots = pairs_apart ts distinct ps canonical (recursion_from_All (λ (p : Var × ℤ). IsOfSlots (length ts) p.0) ps slots)
