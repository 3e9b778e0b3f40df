-- Numbers of alternatives and of paths.
use Rattle.std.specs.Prelude.{ℕ, ◌+◌, Bool, true, false, List, [], ◌∷◌, if◌then◌else◌}
use Rattle.ps_graph.specs.Alternatives.{Bound, of_relation, opposite}
use Rattle.ps_graph.specs.Paths.{Act, is_failing, followed, paths}
use Rattle.ps_tree.specs.declared.relation.Sign.{Sign}
use Rattle.ps_tree.specs.declared.stmt.Stmt.{Stmt}
use Rattle.ps_tree.specs.declared.sum.Sum.{Sum}

abbrev pub held_alternatives : Bool → Sign → Sum → Sum → List (List Bound)
held_alternatives true s a b = of_relation s a b
held_alternatives false s a b = of_relation (opposite s) a b

-- the paths of a list of statements
abbrev pub paths_of : List Stmt → List (List Act)
paths_of [] = [] ∷ []
paths_of (s ∷ rest) = followed (paths s.kind) (paths_of rest)

-- how many paths don't fail, and how many do
abbrev pub going : List (List Act) → ℕ
going [] = 0
going (p ∷ ps) = (if is_failing p then 0 else 1) + going ps

abbrev pub failing : List (List Act) → ℕ
failing [] = 0
failing (p ∷ ps) = (if is_failing p then 1 else 0) + failing ps
