-- Executions of a text that reach the error, and error traces of its graph that run.
use Rattle.std.specs.Prelude.{◌≡◌, ◌↔◌, ℕ, ℤ, List, [], ◌∷◌, slice_get, Some, None, IsTrue}
use Rattle.ps_command.specs.Initial.{IsInitial}
use Rattle.ps_command.specs.declared.state.State.{State}
use Rattle.ps_graph.specs.ErrorTrace.{IsErrorTrace, IsFeasible, RunsFrom}
use Rattle.ps_graph.specs.Execution.{reaches, NeverFails}
use Rattle.ps_graph.specs.Follows.{RestBeginsAt}
use Rattle.ps_graph.specs.Initial.{is_initial}
use Rattle.ps_graph.specs.Picks.{havocs_of}
use Rattle.ps_graph.specs.declared.edge.Edge.{Edge}
use Rattle.ps_graph.specs.declared.graph.Graph.{Graph}
use Rattle.ps_tree.specs.declared.program.Program.{Program}

-- The graph is one of the program: its body begins at location 0, the one entry, no body is run by at most one thread,
-- and the same states are initial.
pub record IsGraphOf (p : Program) (graph : Graph) : Type 0 where
  pub begins : RestBeginsAt graph.setting.commands graph.edges p.body 0
  pub entries : graph.entries ≡ 0 ∷ []
  pub once : graph.once ≡ None
  pub initial : (s : State) → IsInitial graph.setting s ↔ IsTrue (is_initial p s)

-- the letters of steps: by the same threads, along edges whose picks the choices fit, with these havoc values
abbrev pub AreLettersOf : List Edge → List (ℕ × List ℤ) → List (ℕ × ℕ) → List (List ℤ) → Type 0
AreLettersOf edges [] [] [] = Unit {0}
AreLettersOf edges (m ∷ ms) (l ∷ ls) (hs ∷ hss) =
    (m.0 ≡ l.0) × (e : Edge) × (slice_get edges l.1 ≡ Some e) × (havocs_of e.picks m.1 ≡ Some hs) × AreLettersOf edges ms ls hss
AreLettersOf edges _ _ _ = ⊥

-- An execution of the text reaches the error exactly where an error trace of the graph runs: from the same state, by the
-- same threads, with the same choices.
pub record ErrorsAreTraces (p : Program) (graph : Graph) : Type 0 where
  pub forth : (s : State) (steps : List (ℕ × List ℤ)) → IsTrue (reaches p s steps) →
      (letters : List (ℕ × ℕ)) × (havocs : List (List ℤ))
      × AreLettersOf graph.edges steps letters havocs × IsErrorTrace graph letters × RunsFrom graph letters s havocs
  pub back : (s : State) (letters : List (ℕ × ℕ)) (havocs : List (List ℤ)) → IsErrorTrace graph letters →
      RunsFrom graph letters s havocs →
      (steps : List (ℕ × List ℤ)) × AreLettersOf graph.edges steps letters havocs × IsTrue (reaches p s steps)

-- the program never fails exactly where no error trace of the graph is feasible
abbrev pub IsSafeExactly : Program → Graph → Type 0
IsSafeExactly p graph = NeverFails p ↔ ((letters : List (ℕ × ℕ)) → IsErrorTrace graph letters → IsFeasible graph letters → ⊥)
