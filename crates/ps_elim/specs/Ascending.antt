-- Lists of variables that strictly ascend.
use Rattle.std.specs.Prelude.{IsTrue, List, [], ◌∷◌, All}
use Rattle.ps_term.specs.Var.{var_lt}
use Rattle.ps_term.specs.declared.var.Var.{Var}

-- each variable comes before all later ones
abbrev pub Ascend : List Var → Type 0
Ascend [] = Unit {0}
Ascend (x ∷ xs) = All (λ y. IsTrue (var_lt x y)) xs × Ascend xs
