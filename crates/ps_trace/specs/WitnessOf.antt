-- The witness that a trace makes of values for its variables.
use Rattle.std.specs.Prelude.{ℕ, zero, suc, ◌+◌, ℤ, pos, List, [], ◌∷◌, ◌++◌, length, map, filter, nat_lt, option_map, unwrap_or, slice_get, if◌then◌else◌}
use Rattle.ps_graph.specs.Picks.{choice_of, values_in}
use Rattle.ps_graph.specs.declared.edge.Edge.{Edge}
use Rattle.ps_graph.specs.declared.edge.Pick.{Pick}
use Rattle.ps_graph.specs.declared.edge.Pick.TheVariants.{Star, Value}
use Rattle.ps_graph.specs.declared.graph.Graph.{Graph}
use Rattle.ps_term.specs.Var.{var_eq}
use Rattle.ps_term.specs.declared.var.Var.{Var}
use Rattle.ps_term.specs.declared.var.Var.TheVariants.{Global, Local, Havoc}
use Rattle.ps_trace.specs.Rows.{form_at, threads_in_trace}
use Rattle.ps_trace.specs.declared.step.Step.{Step}
use Rattle.ps_trace.specs.declared.witness.Witness.{Witness}

-- the value of a variable: of several the first counts, and without one it is 0
abbrev pub value_among : List (Var × ℤ) → Var → ℤ
value_among [] x = pos 0
value_among (p ∷ ps) x = if var_eq x p.0 then p.1 else value_among ps x

-- f 0, f 1, .., f (n - 1)
abbrev pub values_below : (ℕ → ℤ) → ℕ → List ℤ
values_below f zero = []
values_below f (suc n) = values_below f n ++ f n ∷ []

-- the values of so many globals, and of so many locals of a thread
abbrev pub globals_by : (Var → ℤ) → ℕ → List ℤ
globals_by v n = values_below (λ (i : ℕ). v (Global i)) n

abbrev pub locals_by : (Var → ℤ) → ℕ → ℕ → List ℤ
locals_by v n k = values_below (λ (i : ℕ). v (Local k i)) n

-- the new number of a thread: how many of the threads that occur have a lower one
abbrev pub new_number : List ℕ → ℕ → ℕ
new_number threads k = length (filter (λ (j : ℕ). nat_lt j k) threads)

-- the choice for a pick, where the next havoc has the number n
abbrev pub choice_by : (Var → ℤ) → ℕ → Pick → ℤ
choice_by v n (Star b) = choice_of b
choice_by v n Value = v (Havoc n)

-- the choices for picks in order, their havocs being numbered from n on
abbrev pub choices_by : (Var → ℤ) → ℕ → List Pick → List ℤ
choices_by v n [] = []
choices_by v n (p ∷ ps) = choice_by v n p ∷ choices_by v (n + values_in (p ∷ [])) ps

-- the picks of the edge of a number
abbrev pub picks_at : Graph → ℕ → List Pick
picks_at graph n = unwrap_or (option_map (λ (e : Edge). e.picks) (slice_get graph.edges n)) []

-- A step for each letter, by its thread's new number, where the next havoc of the trace has the number n.
abbrev pub steps_by : Graph → List ℕ → (Var → ℤ) → ℕ → List (ℕ × ℕ) → List Step
steps_by graph threads v n [] = []
steps_by graph threads v n (l ∷ ls) =
    record { thread = new_number threads l.0; choices = choices_by v n (picks_at graph l.1) } ∷ steps_by graph threads v (n + (form_at graph l.1).havocs) ls

-- The witness that starts from these values, with the threads that occur, numbered anew in their order, and has a step
-- for each letter; havocs are numbered through the trace.
abbrev pub witness_of : Graph → List (ℕ × ℕ) → (Var → ℤ) → Witness
witness_of graph letters v = record {
  globals = globals_by v graph.setting.globals;
  locals = map (locals_by v graph.setting.locals) (threads_in_trace letters);
  steps = steps_by graph (threads_in_trace letters) v 0 letters;
}
