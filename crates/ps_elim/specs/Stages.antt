-- The stages of an elimination: the set of vectors before each variable.
use Rattle.std.specs.Prelude.{◌≡◌, ◌≤◌, ℕ, zero, suc, ℤ, List, [], ◌∷◌, length, if◌then◌else◌}
use Rattle.ps_elim.specs.Combining.{AllFit, eliminated, width}
use Rattle.ps_elim.specs.Vectors.{AreSums, units}
use Rattle.ps_elim.specs.declared.limits.TheConstants.{MOST_VECTORS}
use Rattle.ps_elim.specs.declared.stage.Stage.{Stage}
use Rattle.ps_term.specs.Var.{var_eq, var_lt}
use Rattle.ps_term.specs.declared.row.Row.{Row}
use Rattle.ps_term.specs.declared.var.Var.{Var}

-- a variable put into an ascending list, in which it stands once
abbrev pub with_variable : Var → List Var → List Var
with_variable x [] = x ∷ []
with_variable x (y ∷ ys) = if var_eq x y then y ∷ ys else (if var_lt x y then x ∷ y ∷ ys else y ∷ with_variable x ys)

-- the variables of pairs, put into an ascending list
abbrev pub with_variables : List (Var × ℤ) → List Var → List Var
with_variables [] xs = xs
with_variables (p ∷ ps) xs = with_variable p.0 (with_variables ps xs)

-- the variables that stand in the rows, ascending, each once
abbrev pub variables : List Row → List Var
variables [] = []
variables (r ∷ rs) = with_variables r.term.pairs (variables rs)

-- the set of vectors with which the elimination begins
abbrev pub first_set : List Row → List (List ℕ)
first_set rows = units (length rows)

-- the set after all of these variables are eliminated
abbrev pub set_after : List Row → List (List ℕ) → List Var → List (List ℕ)
set_after rows vs [] = vs
set_after rows vs (x ∷ xs) = set_after rows (eliminated rows x vs) xs

-- the next set is made of few enough vectors, and all numbers of its making stay within 128 bits
pub record PassesStage (rows : List Row) (vs : List (List ℕ)) (x : Var) : Type 0 where
  pub few : width rows x vs ≤ MOST_VECTORS
  pub fits : AllFit rows x vs

-- at each of these variables
abbrev pub AllPass : List Row → List (List ℕ) → List Var → Type 0
AllPass rows vs [] = Unit {0}
AllPass rows vs (x ∷ xs) = PassesStage rows vs x × AllPass rows (eliminated rows x vs) xs

-- the stages before the numbered one pass, and of its set and its variable the fact holds
abbrev pub StopsAtStage : (List (List ℕ) → Var → Type 0) → List Row → List (List ℕ) → List Var → ℕ → Type 0
StopsAtStage fact rows vs [] n = ⊥
StopsAtStage fact rows vs (x ∷ xs) zero = fact vs x
StopsAtStage fact rows vs (x ∷ xs) (suc n) = PassesStage rows vs x × StopsAtStage fact rows (eliminated rows x vs) xs n

-- one stage for each variable, with the set before it and the rows of its vectors
abbrev pub AreStages : List Row → List (List ℕ) → List Var → List Stage → Type 0
AreStages rows vs [] [] = Unit {0}
AreStages rows vs [] (s ∷ ss) = ⊥
AreStages rows vs (x ∷ xs) [] = ⊥
AreStages rows vs (x ∷ xs) (s ∷ ss) =
    (s.variable ≡ x) × (s.vectors ≡ vs) × AreSums rows s.vectors s.rows × AreStages rows (eliminated rows x vs) xs ss
