use denote.Hole.Carrier.{hidden}
use Rattle.std.proofs.Common.{◌≡◌, true, false, refl, sym, ◌∙◌, ap, ℕ, zero, suc, ℤ, pos, List, [], ◌∷◌, length}
use Rattle.std.specs.Prelude.{Some, None, option_map, replicate}
use Rattle.std.specs.List.{list_any}
use Rattle.std.specs.Option.{option_and_then}
use Rattle.std.proofs.lemmas.Option.{same_Some}
use Rattle.ps_command.specs.declared.state.State.{State}
use Rattle.ps_graph.specs.Examples.{undeclared, race, state, by}
use Rattle.ps_graph.specs.Execution.{threads_with, started, bodies_of, is_failed, at_error, NeverFails}
use Rattle.ps_graph.specs.Step.{Thread, Runs, Failed, step}
use Rattle.ps_graph.specs.Threads.{Seat, World, step_at, all_moved}
use Rattle.ps_tree.specs.declared.stmt.Stmt.{Stmt}
use Rattle.ps_tree.specs.declared.stmt.StmtKind.TheBlock.{hidden-the_row-Stmt-0}
use Rattle.ps_graph.proofs.worked.executions.Goals as goal

pub returns-clause-counter : goal.returns-clause-counter
returns-clause-counter c = refl

pub returns-clause-unbounded : goal.returns-clause-unbounded
returns-clause-unbounded c = refl

pub returns-clause-rests : goal.returns-clause-rests
returns-clause-rests c = refl

pub returns-clause-locals : goal.returns-clause-locals
returns-clause-locals c = refl

pub returns-clause-race : goal.returns-clause-race
returns-clause-race c = refl

pub returns-clause-alone : goal.returns-clause-alone
returns-clause-alone c = refl

pub returns-clause-once : goal.returns-clause-once
returns-clause-once c = refl

pub returns-clause-six : goal.returns-clause-six
unfolding hidden-the_row-Stmt-0 hidden
returns-clause-six c = refl

pub returns-clause-five : goal.returns-clause-five
unfolding hidden-the_row-Stmt-0 hidden
returns-clause-five c = refl

pub returns-clause-not_reached : goal.returns-clause-not_reached
unfolding hidden-the_row-Stmt-0 hidden
returns-clause-not_reached c = (refl, refl, refl)

-- the world in which thread 0 is Failed and thread 1 has its assertion left
last : World Thread
last = record { globals = pos 2 ∷ []; seats = record { locals = pos 0 ∷ []; at = Failed } ∷ record { locals = pos 1 ∷ []; at = Runs (left race.body) } ∷ [] }
  where
    left : List Stmt → List Stmt
    left (a ∷ (b ∷ rest)) = rest
    left ss = []

fails : NeverFails race → true ≡ false
unfolding last
fails never = never (state (pos 0) ((pos 0 ∷ []) ∷ (pos 0 ∷ []) ∷ [])) (by 0 ∷ by 0 ∷ by 1 ∷ by 1 ∷ by 0 ∷ []) last refl refl

pub returns-clause-sometimes : goal.returns-clause-sometimes
returns-clause-sometimes c = λ never. (let no_such : true ≡ false = fails never in cc)

-- threads that have nothing to run
abbrev idle : List (List ℤ) → List (Seat Thread)
idle lss = threads_with (replicate (length lss) []) lss

abbrev behind : List ℤ → World Thread → World Thread
behind ls w = record { globals = w.globals; seats = record { locals = ls; at = Runs [] } ∷ w.seats }

stays : (k : ℕ) (globals : List ℤ) (lss : List (List ℤ)) (cs : List ℤ) → step_at step k globals (idle lss) cs ≡ None
stays k globals [] cs = refl
stays zero globals (ls ∷ lss) cs = refl
stays (suc k) globals (ls ∷ lss) cs = ap (option_map (behind ls)) (stays k globals lss cs)

none_failed : (lss : List (List ℤ)) → list_any is_failed (idle lss) ≡ false
none_failed [] = refl
none_failed (ls ∷ lss) = none_failed lss

never : (s : State) (steps : List (ℕ × List ℤ)) (w : World Thread) → all_moved step steps (started (bodies_of (undeclared []) s) s) ≡ Some w → at_error w ≡ false
never s [] w e = ap at_error (sym (same_Some (started (bodies_of (undeclared []) s) s) w e)) ∙ none_failed s.locals
never s (m ∷ ms) w e = let no_such : None ≡ Some w = sym (ap (option_and_then (all_moved step ms)) (stays m.0 s.globals s.locals m.1)) ∙ e in cc

pub returns-clause-nothing : goal.returns-clause-nothing
returns-clause-nothing c = λ s steps w ini e. never s steps w e
