-- Where the numbers of sums are small no term of a sum or bound leaves 128 bits.
use Rattle.std.proofs.Common.{◌≡◌, sym, subst, ℕ, zero, suc, ◌+◌, ◌*◌, ◌<◌, ◌^◌, ℤ, pos, negsuc, ◌*ℤ◌, List, [], ◌∷◌, length, ap, arith}
use Rattle.std.specs.Prelude.{Option, neg_ℤ, Err, IsErrOf}
use Rattle.std.specs.List.{AllByRecursion}
use Rattle.std.proofs.lemmas.Int.{ints}
use Rattle.ps_compile.proofs.Products.{products_near}
use Rattle.ps_compile.specs.Conditions.{number_bound, IsSmall, IsCompilableProduct, IsCompilableSum}
use Rattle.ps_compile.specs.Ops.{with_products}
use Rattle.ps_compile.specs.inner.Near.{AreSmall, IsNear, IsNearTerm}
use Rattle.ps_term.specs.Exact.{number_term}
use Rattle.ps_term.specs.declared.term.Term.{Term}
use Rattle.ps_term.specs.declared.var.Var.{Var}
use Rattle.ps_term.proofs.Ring.{one-mul}
use Rattle.ps_tree.specs.declared.sum.Sum.{Sum}

pub small_near : (n : ℤ) → IsSmall n → IsNear number_bound n
small_near (pos n) h = let less : n < 10 ^ 18 = h in (omega (arith, ints, less), omega (arith, ints, less))
small_near (negsuc n) h = let less : n + 1 < 10 ^ 18 = omega (arith, h) in (omega (arith, ints, less), omega (arith, ints, less))

as_they_are : (globals locals : ℕ) (ps : List (ℤ × Option Var)) → AllByRecursion (IsCompilableProduct globals locals) ps → AreSmall (pos 1) ps
as_they_are globals locals [] h = tt
as_they_are globals locals (p ∷ ps) h =
    (subst (IsNear number_bound) (sym (one-mul p.0)) (small_near p.0 h.0.0), as_they_are globals locals ps h.1)

turned_near : (n : ℤ) → IsSmall n → IsNear number_bound (negsuc 0 *ℤ n)
turned_near n h = let near : IsNear number_bound n = small_near n h in (omega (arith, ints, near.0, near.1), omega (arith, ints, near.0, near.1))

turned_round : (globals locals : ℕ) (ps : List (ℤ × Option Var)) → AllByRecursion (IsCompilableProduct globals locals) ps → AreSmall (negsuc 0) ps
turned_round globals locals [] h = tt
turned_round globals locals (p ∷ ps) h = (turned_near p.0 h.0.0, turned_round globals locals ps h.1)

-- a number as a term
number_near : (k : ℕ) (n : ℤ) → IsNear k n → IsNearTerm k (number_term n)
number_near k n h = (λ x. (omega (arith, ints), omega (arith, ints)), h)

pub sum_within : (globals locals : ℕ) (s : Sum) (t : Term) (ps : List (ℤ × Option Var)) → t ≡ number_term (pos 0) → ps ≡ s.terms →
    length ps < 2 ^ 64 → IsCompilableSum globals locals s →
    ((k : ℕ) → IsNearTerm k t → AreSmall (pos 1) ps → k + length ps * number_bound < 2 ^ 127 → ⊥) → ⊥
sum_within globals locals s t ps e f few h past =
    past 0 (subst (IsNearTerm 0) (sym e) (number_near 0 (pos 0) (omega (arith, ints), omega (arith, ints))))
    (subst (AreSmall (pos 1)) (sym f) (as_they_are globals locals s.terms h))
    (let less : 0 + length ps * number_bound < 2 ^ 127 = omega (arith, few) in less)

pub minus_within : (globals locals : ℕ) (right : Sum) (plus : ℤ) (t : Term) (ps : List (ℤ × Option Var)) → t ≡ number_term plus → ps ≡ right.terms →
    length ps < 2 ^ 64 → IsNear 1 plus → IsCompilableSum globals locals right →
    ((k : ℕ) → IsNearTerm k t → AreSmall (negsuc 0) ps → k + length ps * number_bound < 2 ^ 127 → ⊥) → ⊥
minus_within globals locals right plus t ps e f few near h past =
    past 1 (subst (IsNearTerm 1) (sym e) (number_near 1 plus near)) (subst (AreSmall (negsuc 0)) (sym f) (turned_round globals locals right.terms h))
    (let less : 1 + length ps * number_bound < 2 ^ 127 = omega (arith, few) in less)

pub bound_within : (globals locals : ℕ) (left right : Sum) (plus : ℤ) (t u : Term) (ps qs : List (ℤ × Option Var)) →
    t ≡ with_products (negsuc 0) qs u → u ≡ number_term plus → ps ≡ left.terms → qs ≡ right.terms →
    length ps < 2 ^ 64 → length qs < 2 ^ 64 → IsNear 1 plus → IsCompilableSum globals locals left → IsCompilableSum globals locals right →
    ((k : ℕ) → IsNearTerm k t → AreSmall (pos 1) ps → k + length ps * number_bound < 2 ^ 127 → ⊥) → ⊥
bound_within globals locals left right plus t u ps qs e d f j few_left few_right near h i past =
    past (1 + length qs * number_bound)
    (subst (IsNearTerm (1 + length qs * number_bound)) (sym e)
    (products_near 1 (negsuc 0) qs u (subst (IsNearTerm 1) (sym d) (number_near 1 plus near))
    (subst (AreSmall (negsuc 0)) (sym j) (turned_round globals locals right.terms i))))
    (subst (AreSmall (pos 1)) (sym f) (as_they_are globals locals left.terms h))
    (let less : (1 + length qs * number_bound) + length ps * number_bound < 2 ^ 127 = omega (arith, few_left, few_right) in less)

pub variable_within : (constant by : ℤ) (t : Term) → t ≡ number_term constant → IsNear number_bound constant → IsNear 1 by →
    ((k m : ℕ) → IsNearTerm k t → IsNear m by → k + m < 2 ^ 127 → ⊥) → ⊥
variable_within constant by t e near one past =
    past number_bound 1 (subst (IsNearTerm number_bound) (sym e) (number_near number_bound constant near)) one
    (let less : number_bound + 1 < 2 ^ 127 = omega arith in less)

pub small_turned : (n : ℤ) → IsSmall n → IsSmall (neg_ℤ n)
small_turned (pos zero) h = h
small_turned (pos (suc n)) h = h
small_turned (negsuc n) h = h

-- an error is the same in two types of results
pub same_error : {T U E : Type 0} (e d : E) → IsErrOf {T = T} {E = E} (Err e) d → IsErrOf {T = U} {E = E} (Err e) d
same_error e d h = let same : e ≡ d = cc in ap (λ x. Err x) same
