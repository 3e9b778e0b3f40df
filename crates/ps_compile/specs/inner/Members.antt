-- Lists of conditions, as the code goes over them.
use Rattle.std.specs.Prelude.{Bool, List, [], ◌∷◌, ◌++◌}
use Rattle.ps_graph.specs.Alternatives.{Bound, alternatives, product}
use Rattle.ps_tree.specs.declared.cond.Cond.{Cond}

-- the alternatives that take one of each condition
abbrev pub each_of : Bool → List Cond → List (List Bound)
each_of b [] = [] ∷ []
each_of b (c ∷ cs) = product (alternatives b c) (each_of b cs)

-- the alternatives that take one of any condition
abbrev pub any_of : Bool → List Cond → List (List Bound)
any_of b [] = []
any_of b (c ∷ cs) = alternatives b c ++ any_of b cs
