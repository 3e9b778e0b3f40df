-- The facts of a graph of one body.
use Rattle.std.specs.Prelude.{ℕ, List, [], ◌∷◌, None, IsTrue}
use Rattle.ps_command.specs.declared.command.Command.{Command}
use Rattle.ps_compile.specs.Compiled.{one_owner}
use Rattle.ps_graph.specs.Facts.{names_exist, entries_owned, error_is_final, picks_fit, stay_in_bodies}
use Rattle.ps_graph.specs.declared.edge.Edge.{Edge}

-- with the one entry 0, no body that may run only once, and the one owner, the parts keep the facts of a graph that are tests
pub record KeepsFacts (size locations : ℕ) (commands : List Command) (edges : List Edge) : Type 0 where
  pub names : IsTrue (names_exist locations edges (0 ∷ []) None (one_owner size) commands)
  pub entries : IsTrue (entries_owned (one_owner size) (0 ∷ []))
  pub error : IsTrue (error_is_final (one_owner size) edges)
  pub picks : IsTrue (picks_fit commands edges)
  pub bodies : IsTrue (stay_in_bodies (one_owner size) edges)
