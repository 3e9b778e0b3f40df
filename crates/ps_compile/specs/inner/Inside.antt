-- The limits inside a block that is run in one go, of lists of statements.
use Rattle.std.specs.Prelude.{List, [], ◌∷◌, ◌++◌}
use Rattle.ps_compile.specs.Checks.{Check, alternatives_checks, inside}
use Rattle.ps_tree.specs.declared.stmt.Stmt.{Stmt}

abbrev pub inside_of : List Stmt → List Check
inside_of [] = []
inside_of (s ∷ rest) = alternatives_checks s.place s.kind ++ (inside s.kind ++ inside_of rest)
