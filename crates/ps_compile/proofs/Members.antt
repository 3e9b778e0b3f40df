-- The rows of conditions are lists: their alternatives, and what is asked of them.
use Rattle.std.proofs.Common.{◌≡◌, Bool, true, false, not, refl, sym, ◌∙◌, ap, ap₂, subst, ℕ, zero, suc, ◌<◌, List, [], ◌∷◌, ◌++◌, length, get_or, arith}
use Rattle.std.specs.List.{AllByRecursion}
use denote.Hole.Carrier.{hidden}
use Rattle.ps_compile.specs.Conditions.{IsCompilableCond, AreCompilableConds}
use Rattle.ps_compile.specs.inner.Members.{each_of, any_of}
use Rattle.ps_graph.specs.Alternatives.{Bound, alternatives, one_of_any, one_of_each, product}
use Rattle.ps_tree.specs.declared.cond.Cond.{Cond, Row_of-Cond, end_of-Cond, more_of-Cond, items-the_row-Cond}
use Rattle.ps_tree.specs.declared.cond.Cond.TheVariants.{Not, And, Or}
use Rattle.ps_tree.specs.declared.cond.Cond.TheBlock.{hidden-the_row-Cond-0, hidden-the_row-Cond-1, items_hidden-the_row-Cond-1}

each_row : (b : Bool) {n : _} (row : Row_of-Cond n) → one_of_each b row ≡ each_of b (items-the_row-Cond n row)
each_row b end_of-Cond = refl
each_row b (more_of-Cond c rest) = ap (product (alternatives b c)) (each_row b rest)

any_row : (b : Bool) {n : _} (row : Row_of-Cond n) → one_of_any b row ≡ any_of b (items-the_row-Cond n row)
any_row b end_of-Cond = refl
any_row b (more_of-Cond c rest) = ap (λ (l : List (List Bound)). alternatives b c ++ l) (any_row b rest)

pub and_true : (cs : List Cond) → alternatives true (And cs) ≡ each_of true cs
and_true cs = each_row true (hidden-the_row-Cond-1 cs) ∙ ap (each_of true) (items_hidden-the_row-Cond-1 cs)

pub and_false : (cs : List Cond) → alternatives false (And cs) ≡ any_of false cs
and_false cs = any_row false (hidden-the_row-Cond-1 cs) ∙ ap (any_of false) (items_hidden-the_row-Cond-1 cs)

pub or_true : (cs : List Cond) → alternatives true (Or cs) ≡ any_of true cs
or_true cs = any_row true (hidden-the_row-Cond-1 cs) ∙ ap (any_of true) (items_hidden-the_row-Cond-1 cs)

pub or_false : (cs : List Cond) → alternatives false (Or cs) ≡ each_of false cs
or_false cs = each_row false (hidden-the_row-Cond-1 cs) ∙ ap (each_of false) (items_hidden-the_row-Cond-1 cs)

pub not_is : (b : Bool) (c : Cond) → alternatives b (Not c) ≡ alternatives (not b) c
unfolding hidden-the_row-Cond-0 hidden
not_is true c = refl
not_is false c = refl

-- ---- what is asked of members

asked_row : (globals locals : ℕ) {n : _} (row : Row_of-Cond n) → AreCompilableConds globals locals row → AllByRecursion (IsCompilableCond globals locals) (items-the_row-Cond n row)
asked_row globals locals end_of-Cond h = tt
asked_row globals locals (more_of-Cond c rest) h = (h.0, asked_row globals locals rest h.1)

asked_list : (globals locals : ℕ) (cs : List Cond) → AreCompilableConds globals locals (hidden-the_row-Cond-1 cs) → AllByRecursion (IsCompilableCond globals locals) cs
asked_list globals locals cs h =
    subst (AllByRecursion (IsCompilableCond globals locals)) (items_hidden-the_row-Cond-1 cs) (asked_row globals locals (hidden-the_row-Cond-1 cs) h)

asked_and : (globals locals : ℕ) (cs : List Cond) → IsCompilableCond globals locals (And cs) → AllByRecursion (IsCompilableCond globals locals) cs
asked_and globals locals cs h = asked_list globals locals cs h

asked_or : (globals locals : ℕ) (cs : List Cond) → IsCompilableCond globals locals (Or cs) → AllByRecursion (IsCompilableCond globals locals) cs
asked_or globals locals cs h = asked_list globals locals cs h

pub asked_not : (globals locals : ℕ) (c : Cond) → IsCompilableCond globals locals (Not c) → IsCompilableCond globals locals c
unfolding hidden-the_row-Cond-0 hidden
asked_not globals locals c h = h.0

-- and the other way
row_asked : (globals locals : ℕ) {n : _} (row : Row_of-Cond n) → AllByRecursion (IsCompilableCond globals locals) (items-the_row-Cond n row) → AreCompilableConds globals locals row
row_asked globals locals end_of-Cond h = tt
row_asked globals locals (more_of-Cond c rest) h = (h.0, row_asked globals locals rest h.1)

list_asked : (globals locals : ℕ) (cs : List Cond) → AllByRecursion (IsCompilableCond globals locals) cs → AreCompilableConds globals locals (hidden-the_row-Cond-1 cs)
list_asked globals locals cs h =
    row_asked globals locals (hidden-the_row-Cond-1 cs) (subst (AllByRecursion (IsCompilableCond globals locals)) (sym (items_hidden-the_row-Cond-1 cs)) h)

pub asked_of_and : (globals locals : ℕ) (cs : List Cond) → AllByRecursion (IsCompilableCond globals locals) cs → IsCompilableCond globals locals (And cs)
asked_of_and globals locals cs h = list_asked globals locals cs h

pub asked_of_or : (globals locals : ℕ) (cs : List Cond) → AllByRecursion (IsCompilableCond globals locals) cs → IsCompilableCond globals locals (Or cs)
asked_of_or globals locals cs h = list_asked globals locals cs h

pub asked_of_not : (globals locals : ℕ) (c : Cond) → IsCompilableCond globals locals c → IsCompilableCond globals locals (Not c)
unfolding hidden-the_row-Cond-0 hidden
asked_of_not globals locals c h = (h, tt)

pub asked_members : (globals locals : ℕ) (c : Cond) (ms slice : List Cond) → c ≡ And ms → slice ≡ ms → IsCompilableCond globals locals c →
    AllByRecursion (IsCompilableCond globals locals) slice
asked_members globals locals c ms slice e f h =
    subst (AllByRecursion (IsCompilableCond globals locals)) (sym f) (asked_and globals locals ms (subst (IsCompilableCond globals locals) e h))

pub asked_any : (globals locals : ℕ) (c : Cond) (ms slice : List Cond) → c ≡ Or ms → slice ≡ ms → IsCompilableCond globals locals c →
    AllByRecursion (IsCompilableCond globals locals) slice
asked_any globals locals c ms slice e f h =
    subst (AllByRecursion (IsCompilableCond globals locals)) (sym f) (asked_or globals locals ms (subst (IsCompilableCond globals locals) e h))

-- the alternatives of members, by a law of lists
pub members_are : (v h : Bool) (c d : Cond) (ms slice : List Cond) (of : Bool → List Cond → List (List Bound)) →
    alternatives v d ≡ of v ms → c ≡ d → h ≡ v → slice ≡ ms → of h slice ≡ alternatives h c
members_are v h c d ms slice of law e he se = ap₂ of he se ∙ sym law ∙ sym (ap₂ alternatives he e)

pub all_at : {X : Type 0} (P : X → Type 0) (xs : List X) (i : ℕ) (d : X) → i < length xs → AllByRecursion P xs → P (get_or xs i d)
all_at P [] i d l h = let none : ⊥ = omega (arith, l) in absurd none
all_at P (x ∷ xs) zero d l h = h.0
all_at P (x ∷ xs) (suc i) d l h = all_at P xs i d (omega (arith, l)) h.1
