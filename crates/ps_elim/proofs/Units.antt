-- The vectors with which an elimination begins.
use Rattle.std.proofs.Common.{◌≡◌, ℕ, zero, suc, ◌+◌, ◌<◌, ◌≤◌, ℤ, pos, List, [], ◌∷◌, ◌++◌, take, length, get_or, set, replicate, refl, sym, ap, ap₂, ◌∙◌, subst, arith}
use Rattle.std.proofs.lemmas.Int.{ints}
use Rattle.std.proofs.lemmas.List.{get_or-map, length-map, length-replicate, length-set, map_push, take_more, take_all}
use Rattle.ps_elim.specs.Places.{support_of}
use Rattle.ps_elim.specs.Vectors.{IsSum, units}
use Rattle.ps_elim.specs.inner.Weighing.{IsWeighted, vectors_of}
use Rattle.ps_elim.specs.declared.weighted.Weighted.{Weighted}
use Rattle.ps_farkas.specs.Refutes.{weighted}
use Rattle.ps_term.specs.declared.row.Row.{Row}
use Rattle.ps_term.specs.declared.term.Term.{Term}
use Rattle.ps_term.specs.Pairs.{coefficient}
use Rattle.ps_term.proofs.Ring.{one-mul, zero-mul}

pub length-units : (n : ℕ) → length (units n) ≡ n
length-units zero = refl
length-units (suc n) = ap suc (length-map (units n) (λ v. 0 ∷ v) ∙ length-units n)

pub get_or-units : (n i : ℕ) (d : List ℕ) → i < n → get_or (units n) i d ≡ set (replicate n 0) i 1
get_or-units zero i d h = absurd (omega arith)
get_or-units (suc n) zero d h = refl
get_or-units (suc n) (suc i) d h =
    get_or-map (λ v. 0 ∷ v) (units n) i d d (omega (arith, length-units n)) ∙ ap (λ (v : List ℕ). 0 ∷ v) (get_or-units n i d (omega arith))

pub weighted-zeros : (part : Term → ℤ) (rows : List Row) (n : ℕ) → weighted part rows (replicate n 0) ≡ pos 0
weighted-zeros part [] n = refl
weighted-zeros part (r ∷ rs) zero = refl
weighted-zeros part (r ∷ rs) (suc n) = omega (arith, ints, zero-mul (part r.term), weighted-zeros part rs n)

weighted-unit : (part : Term → ℤ) (rows : List Row) (n i : ℕ) (d : Row) → i < length rows → length rows ≡ n → weighted part rows (set (replicate n 0) i 1) ≡ part (get_or rows i d).term
weighted-unit part [] n i d h e = absurd (omega arith)
weighted-unit part (r ∷ rs) zero i d h e = absurd (omega arith)
weighted-unit part (r ∷ rs) (suc n) zero d h e = omega (arith, ints, one-mul (part r.term), weighted-zeros part rs n)
weighted-unit part (r ∷ rs) (suc n) (suc i) d h e =
    omega (arith, ints, zero-mul (part r.term), weighted-unit part rs n i d (omega arith) (omega arith))

pub unit_sum : (rows : List Row) (n i : ℕ) (d : Row) → i < length rows → length rows ≡ n → IsSum rows (set (replicate n 0) i 1) (get_or rows i d)
unit_sum rows n i d h e = record {
  coefficients = λ x. sym (weighted-unit (λ t. coefficient x t.pairs) rows n i d h e);
  constant = sym (weighted-unit (λ t. t.constant) rows n i d h e);
}

pub unit_long : (n i : ℕ) → length {A = ℕ} (set (replicate n 0) i 1) ≡ n
unit_long n i = length-set {A = ℕ} (replicate n 0) i 1 ∙ length-replicate {A = ℕ} n 0

pub unit_weighted : (rows : List Row) (i : ℕ) (r : Row) (w : Weighted) → i < length rows → r ≡ get_or rows i r → w.vector ≡ set (replicate (length rows) 0) i 1 → w.row ≡ r → w.support ≡ support_of w.vector → IsWeighted rows w
unit_weighted rows i r w l is e f s = record {
  long = ap (λ (v : List ℕ). length v) e ∙ unit_long (length rows) i;
  sum = subst (λ (v : List ℕ). IsSum rows v w.row) (sym e) (subst (λ (q : Row). IsSum rows (set (replicate (length rows) 0) i 1) q) (sym (f ∙ is)) (unit_sum rows (length rows) i r l refl));
  support = s;
}

pub units-step : (n i : ℕ) (ws : List Weighted) (w : Weighted) → i < n → vectors_of ws ≡ take i (units n) → w.vector ≡ set (replicate n 0) i 1 → vectors_of (ws ++ w ∷ []) ≡ take (i + 1) (units n)
units-step n i ws w l h e =
    map_push (λ u. u.vector) ws w ∙ (ap₂ (λ (us : List (List ℕ)) (v : List ℕ). us ++ v ∷ []) h (e ∙ sym (get_or-units n i [] l)) ∙ sym (take_more (units n) i [] (omega (arith, length-units n))))

pub units-end : (n i : ℕ) → n ≤ i → take i (units n) ≡ units n
units-end n i h = take_all i (units n) (omega (arith, length-units n))
