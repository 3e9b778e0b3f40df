use Rattle.std.proofs.Common.{◌≡◌, true, refl, sym, ◌∙◌, ap, ℤ, pos, List, [], ◌∷◌, arith}
use Rattle.std.specs.Prelude.{Some, None, slice_get}
use Rattle.std.proofs.lemmas.Option.{same_Some}
use Rattle.ps_graph.proofs.TraceExamples.{trace_of, no_path, no_error, any_number, thread_one, two_begin, infeasible, race_trace, race_start, no_havocs, race_runs}
use Rattle.ps_graph.specs.Examples.Connections.{edge, counter_commands, counter_edges}
use Rattle.ps_graph.specs.Errors.{AreLettersOf}
use Rattle.ps_graph.specs.Examples.Traces.{picking}
use Rattle.ps_graph.specs.Picks.{havocs_of}
use Rattle.ps_graph.specs.declared.edge.Edge.{Edge}
use Rattle.ps_graph.specs.declared.edge.Pick.TheVariants.{Star as StarPick, Value}
use Rattle.ps_graph.proofs.worked.traces.Goals as goal

pub returns-clause-joined : goal.returns-clause-joined
returns-clause-joined c = (refl, refl, refl, refl)

pub returns-clause-last : goal.returns-clause-last
returns-clause-last c = (refl, refl, refl, refl, refl)

pub returns-clause-counter : goal.returns-clause-counter
returns-clause-counter c = λ graph is. (
  trace_of counter_commands counter_edges 0 0 None graph is ((0, 0) ∷ (0, 2) ∷ [])
      (edge 0 3 0, refl, refl, (edge 3 1 2, refl, refl, tt)) refl (any_number counter_commands counter_edges 0 0 graph is ((0, 0) ∷ (0, 2) ∷ [])),
  no_path counter_commands counter_edges 0 0 None graph is ((0, 2) ∷ []) 0 refl,
  no_error counter_commands counter_edges 0 0 None graph is ((0, 0) ∷ (0, 1) ∷ []) refl,
  no_error counter_commands counter_edges 0 0 None graph is [] refl,
  no_error counter_commands counter_edges 0 0 None graph is ((0, 0) ∷ (0, 2) ∷ (1, 0) ∷ []) refl,
)

pub returns-clause-entry : goal.returns-clause-entry
returns-clause-entry c = λ graph is. (
  trace_of counter_commands counter_edges 3 0 None graph is ((0, 2) ∷ []) (edge 3 1 2, refl, refl, tt) refl
      (any_number counter_commands counter_edges 3 0 graph is ((0, 2) ∷ [])),
  no_path counter_commands counter_edges 3 0 None graph is ((0, 0) ∷ (0, 2) ∷ []) 0 refl,
)

pub returns-clause-once : goal.returns-clause-once
returns-clause-once c = (
  λ graph is. trace_of counter_commands counter_edges 0 0 None graph is ((0, 0) ∷ (1, 0) ∷ (0, 2) ∷ [])
      (edge 0 3 0, refl, refl, (edge 0 3 0, refl, refl, (edge 3 1 2, refl, refl, tt))) refl
      (any_number counter_commands counter_edges 0 0 graph is ((0, 0) ∷ (1, 0) ∷ (0, 2) ∷ [])),
  λ graph is. (
    trace_of counter_commands counter_edges 0 0 (Some 0) graph is ((1, 0) ∷ (1, 2) ∷ [])
        (edge 0 3 0, refl, refl, (edge 3 1 2, refl, refl, tt)) refl (λ j k a b. sym (thread_one j a.2) ∙ thread_one k b.2),
    two_begin graph is,
  ),
)

pub returns-clause-infeasible : goal.returns-clause-infeasible
returns-clause-infeasible c = λ graph is feasible. infeasible graph is feasible

pub returns-clause-race : goal.returns-clause-race
returns-clause-race c = λ graph is. (race_trace graph is, (race_start, no_havocs, race_runs graph is))

-- what the one edge's picks give of choices
given : (cs hs : List ℤ) → (e : Edge) → slice_get picking 0 ≡ Some e → havocs_of e.picks cs ≡ Some hs → havocs_of (StarPick true ∷ Value ∷ []) cs ≡ Some hs
given cs hs e g h = ap (λ (f : Edge). havocs_of f.picks cs) (same_Some (record { source = 0; target = 2; command = 0; picks = StarPick true ∷ Value ∷ [] }) e g) ∙ h

other_thread : AreLettersOf picking ((1, pos 1 ∷ pos 7 ∷ []) ∷ []) ((0, 0) ∷ []) ((pos 7 ∷ []) ∷ []) → ⊥
other_thread (t, e, g, h, r) = let none : ⊥ = omega (arith, t) in none

other_edge : AreLettersOf picking ((1, pos 1 ∷ pos 7 ∷ []) ∷ []) ((1, 1) ∷ []) ((pos 7 ∷ []) ∷ []) → ⊥
other_edge (t, e, g, h, r) = cc

other_value : AreLettersOf picking ((1, pos 1 ∷ pos 7 ∷ []) ∷ []) ((1, 0) ∷ []) ((pos 6 ∷ []) ∷ []) → ⊥
other_value (t, e, g, h, r) =
    let same : pos 7 ∷ [] ≡ pos 6 ∷ [] = same_Some (pos 7 ∷ []) (pos 6 ∷ []) (given (pos 1 ∷ pos 7 ∷ []) (pos 6 ∷ []) e g h) in cc

other_choice : AreLettersOf picking ((1, pos 0 ∷ pos 7 ∷ []) ∷ []) ((1, 0) ∷ []) ((pos 7 ∷ []) ∷ []) → ⊥
other_choice (t, e, g, h, r) = let no_such : None ≡ Some (pos 7 ∷ []) = given (pos 0 ∷ pos 7 ∷ []) (pos 7 ∷ []) e g h in cc

pub returns-clause-letters : goal.returns-clause-letters
returns-clause-letters c = (
  (refl, record { source = 0; target = 2; command = 0; picks = StarPick true ∷ Value ∷ [] }, refl, refl, tt),
  other_thread,
  other_edge,
  other_value,
  other_choice,
  λ h. h,
)
