-- The stages taken so far: the values of their variables, in the map and in the list.
use Rattle.std.proofs.Common.{◌≡◌, ℕ, ◌+◌, ◌-◌, ◌<◌, ◌≤◌, ℤ, pos, Bool, true, false, cond, if◌then◌else◌, List, [], ◌∷◌, ◌++◌, length, get_or, take, drop, map, reverse, Option, Some, unwrap_or, refl, sym, ap, ◌∙◌, subst, arith, take-append-drop}
use mathlib.Core.Path.{fun_ext}
use Rattle.std.specs.BTreeMap.{BTreeMap}
use Rattle.std.specs.BTreeMap as tree
use Rattle.std.specs.Ordering.{is_eq}
use Rattle.std.proofs.lemmas.Bool.Decides.{nat_tests}
use Rattle.std.proofs.lemmas.List.{drop_more, drop_all, reverse-append}
use Rattle.ps_elim.specs.declared.stage.Stage.{Stage}
use Rattle.ps_term.specs.declared.var.Var.{Var}
use Rattle.ps_term.specs.declared.var.Var.TheVariants.{Global, Local, Havoc}
use Rattle.ps_term.specs.Var.{var_eq}
use Rattle.ps_walk.specs.Answer.{AllowsNone, StagePast}
use Rattle.ps_walk.specs.inner.Findings.{IsFinding, found_values, var_cmp}
use Rattle.ps_walk.specs.Values.{value_found}
use Rattle.ps_walk.specs.Walking.{AreFound, WalkStopsAt}
use Rattle.ps_walk.specs.declared.finding.Finding.TheVariants.{Value, Nothing, Past128 as FoundPast}

-- the map's order tells variables apart as the test of equality does
pub cmp_is_eq : (a b : Var) → is_eq (var_cmp a b) ≡ var_eq b a
cmp_is_eq (Global m) (Global n) = grind (arith, nat_tests)
cmp_is_eq (Local s m) (Local t n) = grind (arith, nat_tests)
cmp_is_eq (Havoc m) (Havoc n) = grind (arith, nat_tests)
cmp_is_eq (Global _) (Local _ _) = refl
cmp_is_eq (Global _) (Havoc _) = refl
cmp_is_eq (Local _ _) (Global _) = refl
cmp_is_eq (Local _ _) (Havoc _) = refl
cmp_is_eq (Havoc _) (Global _) = refl
cmp_is_eq (Havoc _) (Local _ _) = refl

-- the pairs in the list, which has those of later stages first, are the values of the stages that are done
pub record Walked (stages : List Stage) (found : BTreeMap Var ℤ) (pairs : List (Var × ℤ)) (left : ℕ) : Type 0 where
  pub within : left ≤ length stages
  pub known : found_values found ≡ value_found (reverse pairs)
  pub are_found : AreFound (drop left stages) (reverse pairs)

pub Walked-start : (stages : List Stage) (found : BTreeMap Var ℤ) (pairs : List (Var × ℤ)) → found.entries ≡ [] → pairs ≡ [] → Walked stages found pairs (length stages)
Walked-start stages found pairs none empty = record {
  within = omega arith;
  known = fun_ext (λ x. (rw (none, empty) refl));
  are_found = rw (empty, drop_all (length stages) stages (omega arith)) tt;
}

value_more : (t u : Bool) (w old new : ℤ) → t ≡ u → (o : Option ℤ) → unwrap_or o (pos 0) ≡ old → unwrap_or (cond t (Some w) o) (pos 0) ≡ (if u then w else old)
value_more true true w old new e o h = refl
value_more false false w old new e o h = h
value_more true false w old new e o h = cc
value_more false true w old new e o h = cc

known_more : (found new : BTreeMap Var ℤ) (pairs : List (Var × ℤ)) (x : Var) (n : ℤ) → found_values found ≡ value_found pairs → tree.Updates var_cmp found new x (Some n) → found_values new ≡ value_found ((x, n) ∷ pairs)
known_more found new pairs x n known up =
    fun_ext (λ y. ap (λ (o : Option ℤ). unwrap_or o (pos 0)) (up.0 y) ∙ value_more (is_eq (var_cmp x y)) (var_eq y x) n (value_found pairs y) (pos 0) (cmp_is_eq x y) (tree.get var_cmp found y) (ap (λ (f : Var → ℤ). f y) known))

front_at : (stages : List Stage) (left : ℕ) (s : Stage) → 0 < left → left ≤ length stages → s ≡ get_or stages (left - 1) s → drop (left - 1) stages ≡ s ∷ drop left stages
front_at stages left s h l is =
    let next : left - 1 + 1 ≡ left = omega arith in
    drop_more stages (left - 1) s (omega arith) ∙ (ap (λ (z : Stage). z ∷ drop (left - 1 + 1) stages) (sym is) ∙ ap (λ (k : ℕ). s ∷ drop k stages) next)

pub Walked-step : (stages : List Stage) (found new : BTreeMap Var ℤ) (pairs more : List (Var × ℤ)) (left : ℕ) (s : Stage) (n : ℤ) → Walked stages found pairs left → 0 < left → s ≡ get_or stages (left - 1) s → IsFinding (found_values found) s.variable s.rows (Value n) → tree.Updates var_cmp found new s.variable (Some n) → more ≡ pairs ++ (s.variable, n) ∷ [] → Walked stages new more (left - 1)
Walked-step stages found new pairs more left s n w h is f up e =
    let back : reverse more ≡ (s.variable, n) ∷ reverse pairs = ap (λ (ps : List (Var × ℤ)). reverse ps) e ∙ reverse-append pairs ((s.variable, n) ∷ []) in
    let fits : IsFinding (value_found (reverse pairs)) s.variable s.rows (Value n) = subst (λ (v : Var → ℤ). IsFinding v s.variable s.rows (Value n)) w.known f in
    let within : left - 1 ≤ length stages = omega (arith, w.within) in
    record {
      within = within;
      known = known_more found new (reverse pairs) s.variable n w.known up ∙ ap (λ (ps : List (Var × ℤ)). value_found ps) (sym back);
      are_found = rw (front_at stages left s h w.within is, back) (record { variable = refl; fits = fits.0; nearest = fits.1 }, w.are_found);
    }

-- ---- a stage at which the walk stops
stops_at : (reason : List (Var × ℤ) → Stage → Type 0) (stages : List Stage) (found : BTreeMap Var ℤ) (pairs : List (Var × ℤ)) (left : ℕ) (s : Stage) → Walked stages found pairs left → 0 < left → s ≡ get_or stages (left - 1) s → reason (reverse pairs) s → WalkStopsAt reason stages
stops_at reason stages found pairs left s w h is why = record {
  before = take (left - 1) stages;
  here = s;
  after = drop left stages;
  is = sym (take-append-drop (left - 1) stages) ∙ ap (λ (ss : List Stage). take (left - 1) stages ++ ss) (front_at stages left s h w.within is);
  later = reverse pairs;
  found = w.are_found;
  stops = why;
}

pub stops_apart : (stages : List Stage) (found : BTreeMap Var ℤ) (pairs : List (Var × ℤ)) (left : ℕ) (s : Stage) (l u : ℤ) → Walked stages found pairs left → 0 < left → s ≡ get_or stages (left - 1) s → IsFinding (found_values found) s.variable s.rows (Nothing l u) → WalkStopsAt (AllowsNone s.variable l u) stages
stops_apart stages found pairs left s l u w h is f =
    let here : IsFinding (value_found (reverse pairs)) s.variable s.rows (Nothing l u) = subst (λ (v : Var → ℤ). IsFinding v s.variable s.rows (Nothing l u)) w.known f in
    stops_at (AllowsNone s.variable l u) stages found pairs left s w h is (record {
      variable = refl;
      fits = here.0;
      is_lower = here.1;
      is_upper = here.2;
      apart = here.3;
    })

pub stops_past : (stages : List Stage) (found : BTreeMap Var ℤ) (pairs : List (Var × ℤ)) (left : ℕ) (s : Stage) → Walked stages found pairs left → 0 < left → s ≡ get_or stages (left - 1) s → IsFinding (found_values found) s.variable s.rows FoundPast → WalkStopsAt StagePast stages
stops_past stages found pairs left s w h is f =
    stops_at StagePast stages found pairs left s w h is (subst (λ (v : Var → ℤ). IsFinding v s.variable s.rows FoundPast) w.known f)

-- ---- all stages are done
pub Walked-end : (stages : List Stage) (found : BTreeMap Var ℤ) (pairs : List (Var × ℤ)) (left : ℕ) → Walked stages found pairs left → left ≡ 0 → AreFound stages (reverse pairs)
Walked-end stages found pairs left w e =
    subst (λ (k : ℕ). AreFound (drop k stages) (reverse pairs)) e w.are_found

pub found_variables : (stages : List Stage) (pairs : List (Var × ℤ)) → AreFound stages pairs → map (λ (p : Var × ℤ). p.0) pairs ≡ map (λ (s : Stage). s.variable) stages
found_variables [] [] f = refl
found_variables [] (p ∷ ps) f = absurd f
found_variables (s ∷ ss) [] f = absurd f
found_variables (s ∷ ss) (p ∷ ps) f =
    ap (λ (x : Var). x ∷ map (λ (q : Var × ℤ). q.0) ps) f.0.variable ∙ ap (λ (xs : List Var). s.variable ∷ xs) (found_variables ss ps f.1)
