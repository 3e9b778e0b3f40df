-- Worked examples: steps back of the counter under the entries that prove it safe. Its thread adds 1 to `x` along edge 0,
-- from location 0 to 3, and then asserts that `x` is at least 1: along edge 1 to the end, location 2, where it is, and
-- along edge 2 into the error where it isn't.
use Rattle.std.specs.Prelude.{◌≡◌, ◌≢◌, ℕ, List, [], ◌∷◌, Option, Some, None}
use Rattle.ps_atom.specs.declared.atom.Atom.{Atom}
use Rattle.ps_triple.specs.Examples.{bare, counter_entries}
use Rattle.ps_config.specs.Configurations.{Configuration}
use Rattle.ps_config.specs.Forms.{start_configuration}
use Rattle.ps_graph.specs.Examples.Connections.{counter_edges}
use Rattle.ps_graph.specs.declared.graph.Graph.{Graph}
use Rattle.ps_step.specs.Closed.{IsClosed}
use Rattle.ps_step.specs.Steps.{IsAccepting, IsSmallest, Stands}

-- a graph of the counter, whose one body any number of threads run, or at most one
pub record IsCounterGraph (once : Option ℕ) (graph : Graph) : Type 0 where
  pub edges : graph.edges ≡ counter_edges
  pub entries : graph.entries ≡ 0 ∷ []
  pub at_most_one : graph.once ≡ once
  pub owner : graph.owner ≡ Some 0 ∷ None ∷ Some 0 ∷ Some 0 ∷ []

-- a configuration with these threads at these locations, and the atoms of these predicates
abbrev pub placed : List (ℕ × ℕ) → List Atom → Configuration
placed at atoms = record { at = at; atoms = atoms }

-- thread 0 before the assertion, with `x` below 1, and at its entry, with `x` below 0
abbrev pub asserting : Configuration
asserting = placed ((0, 3) ∷ []) (bare 1 ∷ [])

abbrev pub entering : Configuration
entering = placed ((0, 0) ∷ []) (bare 2 ∷ [])

-- from the start, one step: along edge 2 by thread 0
abbrev pub FromStart : Type 0
FromStart = (graph : Graph) → IsCounterGraph None graph →
    IsSmallest graph counter_entries start_configuration 2 0 asserting
    × ((thread : ℕ) (to : Configuration) → ¬ Stands graph counter_entries start_configuration 0 thread to)
    × ((thread : ℕ) (to : Configuration) → thread ≢ 0 → ¬ Stands graph counter_entries start_configuration 2 thread to)
    × ((at : List (ℕ × ℕ)) → ¬ Stands graph counter_entries start_configuration 2 0 (placed at []))

-- from before the assertion: along edge 0 by the thread itself and by another one, along edge 1 by another one; not along
-- edge 1 by the thread, which isn't at its target, and not into the error
abbrev pub FromAsserting : Type 0
FromAsserting = (graph : Graph) → IsCounterGraph None graph →
    IsSmallest graph counter_entries asserting 0 0 entering
    × IsSmallest graph counter_entries asserting 0 1 (placed ((0, 3) ∷ (1, 0) ∷ []) (bare 2 ∷ []))
    × IsSmallest graph counter_entries asserting 1 1 (placed ((0, 3) ∷ (1, 3) ∷ []) (bare 1 ∷ []))
    × ((to : Configuration) → ¬ Stands graph counter_entries asserting 1 0 to)
    × ((thread : ℕ) (to : Configuration) → ¬ Stands graph counter_entries asserting 2 thread to)

-- it stands with one atom more, but isn't a smallest one; with the atom of `x` below 1 alone, or with the other thread
-- gone, it doesn't stand
abbrev pub MoreThanSmallest : Type 0
MoreThanSmallest = (graph : Graph) → IsCounterGraph None graph →
    Stands graph counter_entries asserting 0 0 (placed ((0, 0) ∷ []) (bare 1 ∷ bare 2 ∷ []))
    × (¬ IsSmallest graph counter_entries asserting 0 0 (placed ((0, 0) ∷ []) (bare 1 ∷ bare 2 ∷ [])))
    × (¬ Stands graph counter_entries asserting 0 0 (placed ((0, 0) ∷ []) (bare 1 ∷ [])))
    × (¬ Stands graph counter_entries asserting 0 1 (placed ((1, 0) ∷ []) (bare 2 ∷ [])))

-- where at most one thread runs the body, no other thread steps back into it
abbrev pub OneInOnce : Type 0
OneInOnce = (graph : Graph) → IsCounterGraph (Some 0) graph →
    IsSmallest graph counter_entries asserting 0 0 entering
    × ((thread : ℕ) (to : Configuration) → thread ≢ 0 → ¬ Stands graph counter_entries asserting 0 thread to)

-- accepting: all threads at the entry and no atom; not with a thread elsewhere, and not with an atom that holds initially,
-- unless it has no entry
abbrev pub WhichAccept : Type 0
WhichAccept = (graph : Graph) → IsCounterGraph None graph →
    IsAccepting graph counter_entries (placed ((0, 0) ∷ (1, 0) ∷ []) [])
    × (¬ IsAccepting graph counter_entries (placed ((0, 0) ∷ (1, 3) ∷ []) []))
    × (¬ IsAccepting graph counter_entries entering)
    × IsAccepting graph [] entering
    × IsAccepting graph counter_entries (placed ((0, 0) ∷ []) (bare 1 ∷ []))

-- the two configurations are a closed covering; the first alone isn't
abbrev pub CounterIsClosed : Type 0
CounterIsClosed = (graph : Graph) → IsCounterGraph None graph →
    IsClosed graph counter_entries (asserting ∷ entering ∷ [])
    × (¬ IsClosed graph counter_entries (asserting ∷ []))
