-- A walk over stages from the last one to the first.
use Rattle.std.specs.Prelude.{◌≡◌, ℤ, List, [], ◌∷◌, ◌++◌}
use Rattle.ps_elim.specs.declared.stage.Stage.{Stage}
use Rattle.ps_term.specs.declared.var.Var.{Var}
use Rattle.ps_walk.specs.Bounds.{Allows, IsNearest, StageFits}
use Rattle.ps_walk.specs.Values.{value_found}

-- at the values of the later stages' variables the pair is that of the stage's variable and its value, the number
-- nearest to 0 that the stage's rows allow, and the stage fits
pub record IsFoundValue (later : List (Var × ℤ)) (s : Stage) (p : Var × ℤ) : Type 0 where
  pub variable : p.0 ≡ s.variable
  pub fits : StageFits (value_found later) s.variable s.rows
  pub nearest : IsNearest (Allows (value_found later) s.variable s.rows) p.1

-- the pairs of all stages' variables and their values, in the order of the stages
abbrev pub AreFound : List Stage → List (Var × ℤ) → Type 0
AreFound [] [] = Unit {0}
AreFound [] (p ∷ ps) = ⊥
AreFound (s ∷ ss) [] = ⊥
AreFound (s ∷ ss) (p ∷ ps) = IsFoundValue ps s p × AreFound ss ps

-- the walk comes to a stage, at which this holds for the values of the later ones
pub record WalkStopsAt (reason : List (Var × ℤ) → Stage → Type 0) (stages : List Stage) : Type 0 where
  pub before : List Stage
  pub here : Stage
  pub after : List Stage
  pub is : stages ≡ before ++ here ∷ after
  pub later : List (Var × ℤ)
  pub found : AreFound after later
  pub stops : reason later here
