-- The values that a map has, where pairs are entered from the last to the first.
use Rattle.std.proofs.Common.{◌≡◌, ℕ, ◌+◌, ◌<◌, ℤ, pos, Bool, true, false, cond, if◌then◌else◌, List, [], ◌∷◌, length, get_or, drop, Option, Some, unwrap_or, refl, sym, ap, ◌∙◌, arith}
use mathlib.Core.Path.{fun_ext}
use Rattle.std.specs.BTreeMap.{BTreeMap}
use Rattle.std.specs.BTreeMap as tree
use Rattle.std.specs.Ordering.{is_eq}
use Rattle.std.proofs.lemmas.Bool.Decides.{nat_tests}
use Rattle.std.proofs.lemmas.List.{drop_more, drop_all}
use Rattle.ps_term.specs.Var.{var_eq}
use Rattle.ps_term.specs.declared.var.Var.{Var}
use Rattle.ps_term.specs.declared.var.Var.TheVariants.{Global, Local, Havoc}
use Rattle.ps_trace.specs.WitnessOf.{value_among}
use Rattle.ps_trace.specs.inner.Known.{known_values, var_cmp}

-- the map's order tells variables apart as the test of equality does
cmp_is_eq : (a b : Var) → is_eq (var_cmp a b) ≡ var_eq b a
cmp_is_eq (Global m) (Global n) = grind (arith, nat_tests)
cmp_is_eq (Local s m) (Local t n) = grind (arith, nat_tests)
cmp_is_eq (Havoc m) (Havoc n) = grind (arith, nat_tests)
cmp_is_eq (Global _) (Local _ _) = refl
cmp_is_eq (Global _) (Havoc _) = refl
cmp_is_eq (Local _ _) (Global _) = refl
cmp_is_eq (Local _ _) (Havoc _) = refl
cmp_is_eq (Havoc _) (Global _) = refl
cmp_is_eq (Havoc _) (Local _ _) = refl

value_more : (t u : Bool) (w old : ℤ) → t ≡ u → (o : Option ℤ) → unwrap_or o (pos 0) ≡ old → unwrap_or (cond t (Some w) o) (pos 0) ≡ (if u then w else old)
value_more true true w old e o h = refl
value_more false false w old e o h = h
value_more true false w old e o h = cc
value_more false true w old e o h = cc

known_more : (known new : BTreeMap Var ℤ) (ps : List (Var × ℤ)) (x : Var) (n : ℤ) → known_values known ≡ value_among ps → tree.Updates var_cmp known new x (Some n) →
    known_values new ≡ value_among ((x, n) ∷ ps)
known_more known new ps x n same up =
    fun_ext (λ y. ap (λ (o : Option ℤ). unwrap_or o (pos 0)) (up.0 y)
    ∙ value_more (is_eq (var_cmp x y)) (var_eq y x) n (value_among ps y) (cmp_is_eq x y) (tree.get var_cmp known y) (ap (λ (f : Var → ℤ). f y) same))

-- one pair more is entered, from the last on
pub known_next : (known new : BTreeMap Var ℤ) (ps : List (Var × ℤ)) (i j : ℕ) (d : Var × ℤ) → i < length ps → j ≡ i + 1 → known_values known ≡ value_among (drop j ps) →
    tree.Updates var_cmp known new (get_or ps i d).0 (Some (get_or ps i d).1) → known_values new ≡ value_among (drop i ps)
known_next known new ps i j d w e same up =
    known_more known new (drop (i + 1) ps) (get_or ps i d).0 (get_or ps i d).1 (same ∙ ap (λ (k : ℕ). value_among (drop k ps)) e) up
    ∙ sym (ap value_among (drop_more ps i d w))

-- no pair is entered yet
pub known_start : (known : BTreeMap Var ℤ) (ps : List (Var × ℤ)) → known.entries ≡ [] → known_values known ≡ value_among (drop (length ps) ps)
known_start known ps none = fun_ext (λ x. (rw (none, drop_all (length ps) ps (omega arith)) refl))
