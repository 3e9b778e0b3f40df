-- Worked example: a proof of the counter that is accepted, and two that aren't.
use Rattle.std.specs.Prelude.{◌≡◌, negsuc, pos, List, [], ◌∷◌, None}
use Rattle.ps_atom.specs.declared.predicate.Predicate.{Predicate}
use Rattle.ps_farkas.specs.Examples.{row_on_x}
use Rattle.ps_graph.specs.declared.graph.Graph.{Graph}
use Rattle.ps_step.specs.Closed.{IsAccepted}
use Rattle.ps_step.specs.Examples.{IsCounterGraph, asserting, entering}
use Rattle.ps_triple.specs.Examples.{counter_entries, counter_setting}

-- `x >= 1` and `x >= 0`, which a proof lists after false
abbrev pub counter_listed : List Predicate
counter_listed =
    record { arity = 0; row = row_on_x (negsuc 0) (pos 1) } ∷ record { arity = 0; row = row_on_x (negsuc 0) (pos 0) } ∷ []

-- the graph of the counter, with its commands and the rows that hold at the start
pub record IsWholeCounter (graph : Graph) : Type 0 where
  pub edges : IsCounterGraph None graph
  pub locations : graph.locations ≡ 4
  pub setting : graph.setting ≡ counter_setting

-- accepted: before the assertion with `x` below 1, and at the entry with `x` below 0
abbrev pub CounterIsAccepted : Type 0
CounterIsAccepted = (graph : Graph) → IsWholeCounter graph →
    IsAccepted graph counter_listed counter_entries (asserting ∷ entering ∷ [])

-- not with the first configuration alone, and not without the entries
abbrev pub LessIsNotAccepted : Type 0
LessIsNotAccepted = (graph : Graph) → IsWholeCounter graph →
    (¬ IsAccepted graph counter_listed counter_entries (asserting ∷ []))
    × (¬ IsAccepted graph counter_listed [] (asserting ∷ entering ∷ []))
