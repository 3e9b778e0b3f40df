-- The variables of rows strictly ascend.
use Rattle.std.proofs.Common.{◌≡◌, Bool, true, false, ℤ, List, [], ◌∷◌, All, IsTrue, if◌then◌else◌, map, refl, sym, ap, ap₂, ◌∙◌, subst}
use Rattle.std.proofs.lemmas.List.Elements.{All-nil, All-cons}
use Rattle.ps_elim.specs.Ascending.{Ascend}
use Rattle.ps_elim.specs.Elimination.{AreStagesOf}
use Rattle.ps_elim.specs.Combining.{eliminated}
use Rattle.ps_elim.specs.Stages.{AreStages, first_set, variables, with_variable, with_variables}
use Rattle.ps_elim.specs.declared.stage.Stage.{Stage}
use Rattle.ps_term.specs.Var.{var_eq, var_lt}
use Rattle.ps_term.specs.declared.row.Row.{Row}
use Rattle.ps_term.specs.declared.var.Var.{Var}
use Rattle.ps_term.proofs.Variables.{var_lt_or_gt, var_lt_trans}

-- each variable comes before the next
abbrev Below : Var → List Var → Type 0
Below x [] = Unit {0}
Below x (y ∷ ys) = IsTrue (var_lt x y)

abbrev Rise : List Var → Type 0
Rise [] = Unit {0}
Rise (x ∷ xs) = Below x xs × Rise xs

below_with : (z x y : Var) (ys more : List Var) (e l : Bool) → IsTrue (var_lt z x) → IsTrue (var_lt z y)
    → Below z (if e then y ∷ ys else (if l then x ∷ y ∷ ys else y ∷ more))
below_with z x y ys more true l h k = k
below_with z x y ys more false true h k = h
below_with z x y ys more false false h k = k

below : (z x : Var) (ys : List Var) → IsTrue (var_lt z x) → Below z ys → Below z (with_variable x ys)
below z x [] h k = h
below z x (y ∷ ys) h k = below_with z x y ys (with_variable x ys) (var_eq x y) (var_lt x y) h k

rise_by : (x y : Var) (ys more : List Var) (e l : Bool) → var_eq x y ≡ e → var_lt x y ≡ l → Rise (y ∷ ys)
    → (IsTrue (var_lt y x) → Below y more) → Rise more → Rise (if e then y ∷ ys else (if l then x ∷ y ∷ ys else y ∷ more))
rise_by x y ys more true l p q h b m = h
rise_by x y ys more false true p q h b m = (q, h)
rise_by x y ys more false false p q h b m = (b (var_lt_or_gt x y p q), m)

rise_with : (x : Var) (ys : List Var) → Rise ys → Rise (with_variable x ys)
rise_with x [] h = (tt, tt)
rise_with x (y ∷ ys) h =
    rise_by x y ys (with_variable x ys) (var_eq x y) (var_lt x y) refl refl h (λ gt. below y x ys gt h.0) (rise_with x ys h.1)

rise_pairs : (ps : List (Var × ℤ)) (xs : List Var) → Rise xs → Rise (with_variables ps xs)
rise_pairs [] xs h = h
rise_pairs (p ∷ ps) xs h = rise_with p.0 (with_variables ps xs) (rise_pairs ps xs h)

variables_rise : (rows : List Row) → Rise (variables rows)
variables_rise [] = tt
variables_rise (r ∷ rs) = rise_pairs r.term.pairs (variables rs) (variables_rise rs)

-- what comes before the next comes before all later ones
before_all : (x : Var) (ys : List Var) → Below x ys → Rise ys → All (λ y. IsTrue (var_lt x y)) ys
before_all x [] b h = All-nil (λ y. IsTrue (var_lt x y))
before_all x (y ∷ []) b h =
    All-cons (λ z. IsTrue (var_lt x z)) y [] b (All-nil (λ z. IsTrue (var_lt x z)))
before_all x (y ∷ (z ∷ zs)) b h =
    All-cons (λ w. IsTrue (var_lt x w)) y (z ∷ zs) b (before_all x (z ∷ zs) (var_lt_trans x y z b h.0) h.1)

ascend_from : (xs : List Var) → Rise xs → Ascend xs
ascend_from [] h = tt
ascend_from (x ∷ xs) h = (before_all x xs h.0 h.1, ascend_from xs h.1)

pub variables_ascend : (rows : List Row) → Ascend (variables rows)
variables_ascend rows = ascend_from (variables rows) (variables_rise rows)

-- the stages are those of the variables
stage_variables : (rows : List Row) (vs : List (List Rattle.std.proofs.Common.ℕ)) (xs : List Var) (ss : List Stage) → AreStages rows vs xs ss → map (λ s. s.variable) ss ≡ xs
stage_variables rows vs [] [] h = refl
stage_variables rows vs [] (s ∷ ss) h = absurd h
stage_variables rows vs (x ∷ xs) [] h = absurd h
stage_variables rows vs (x ∷ xs) (s ∷ ss) h =
    ap₂ (λ (y : Var) (ys : List Var). y ∷ ys) h.0 (stage_variables rows (eliminated rows x vs) xs ss h.3)

pub stages_ascend : (rows : List Row) (ss : List Stage) → AreStagesOf rows ss → Ascend (map (λ s. s.variable) ss)
stages_ascend rows ss h =
    subst (λ (xs : List Var). Ascend xs) (sym (stage_variables rows (first_set rows) (variables rows) ss h.made)) (variables_ascend rows)
