-- What an accepted proof shows, and what is accepting under fewer entries.
use Rattle.std.proofs.Common.{refl, ℕ, List, ◌∷◌, Contains}
use Rattle.ps_atom.specs.Numbers.{false_predicate}
use Rattle.ps_atom.specs.declared.predicate.Predicate.{Predicate}
use Rattle.ps_basis.proofs.Infeasible.{proved_is_infeasible}
use Rattle.ps_basis.specs.Space.{IsProved}
use Rattle.ps_config.specs.Configurations.{Configuration}
use Rattle.ps_graph.proofs.Joined.{safe}
use Rattle.ps_graph.specs.ErrorTrace.{IsErrorTrace, IsFeasible}
use Rattle.ps_graph.specs.Errors.{IsGraphOf}
use Rattle.ps_graph.specs.Execution.{NeverFails}
use Rattle.ps_graph.specs.declared.graph.Graph.{Graph}
use Rattle.ps_soundness.proofs.Back.{closed_proves}
use Rattle.ps_soundness.proofs.Feasible.{feasible_runs}
use Rattle.ps_soundness.specs.Traces.{trace_of}
use Rattle.ps_step.specs.Closed.{IsAccepted}
use Rattle.ps_step.specs.Steps.{IsAccepting}
use Rattle.ps_tree.specs.declared.program.Program.{Program}
use Rattle.ps_triple.specs.Faults.{EntryHolds}
use Rattle.ps_triple.specs.declared.entry.Entry.{Entry}
use Rattle.ps_triple.specs.declared.entry.Entry.TheVariants.{Initial as OfInitial}

pub proved_error_is_infeasible : (graph : Graph) (predicates : List Predicate) (entries : List Entry) →
    ((entry : Entry) → Contains entries entry → EntryHolds graph.setting (false_predicate ∷ predicates) entry) →
    (letters : List (ℕ × ℕ)) → IsErrorTrace graph letters → IsProved entries (trace_of graph.edges letters) → ¬ IsFeasible graph letters
proved_error_is_infeasible graph predicates entries hold letters trace proved feasible =
    proved_is_infeasible graph.setting (false_predicate ∷ predicates) entries (trace_of graph.edges letters) refl hold proved (feasible_runs graph letters trace feasible)

pub accepted_traces : (graph : Graph) (predicates : List Predicate) (entries : List Entry) (configurations : List Configuration) →
    IsAccepted graph predicates entries configurations → (letters : List (ℕ × ℕ)) → IsErrorTrace graph letters → ¬ IsFeasible graph letters
accepted_traces graph predicates entries configurations a letters trace =
    proved_error_is_infeasible graph predicates entries a.hold letters trace
    (closed_proves graph entries configurations (λ entry i. (a.hold entry i).tied) (λ c i t l at. ((a.named c i).locations t l at).1) a.closed graph.stays graph.entries_own letters trace)

pub accepted_text : (program : Program) (graph : Graph) (predicates : List Predicate) (entries : List Entry) (configurations : List Configuration) →
    IsGraphOf program graph → IsAccepted graph predicates entries configurations → NeverFails program
accepted_text program graph predicates entries configurations is a =
    (safe program graph is).1 (accepted_traces graph predicates entries configurations a)

abbrev AreAmong : List Entry → List Entry → Type 0
AreAmong some all = (entry : Entry) → Contains some entry → Contains all entry

pub accepting_less : (graph : Graph) (some all : List Entry) (c : Configuration) → AreAmong some all → IsAccepting graph all c → IsAccepting graph some c
accepting_less graph some all c h a = record {
  entered = a.entered;
  without = λ q i (j, k, e). a.without q i (j, h (OfInitial j) k, e);
}
