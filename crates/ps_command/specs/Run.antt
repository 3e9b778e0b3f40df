-- What it is to run a command.
use Rattle.std.specs.Prelude.{ℕ, ℤ, pos, ◌+◌, Bool, List, [], ◌∷◌, drop, slice_index_or, Option, Some, None, if◌then◌else◌, option_map, int_le}
use Rattle.ps_command.specs.Values.{Values, value_at, with_value, values_of, with_values}
use Rattle.ps_command.specs.declared.op.Op.{Op}
use Rattle.ps_command.specs.declared.op.Op.TheVariants.{Assume, Assign, Havoc}
use Rattle.ps_command.specs.declared.state.State.{State}
use Rattle.ps_term.specs.declared.row.Row.{Row}
use Rattle.ps_term.specs.declared.var.Var.{Var}
use Rattle.ps_term.specs.Term.{value}

-- the row holds of these values of the variables
abbrev pub holds : (Var → ℤ) → Row → Bool
holds values r = int_le (value values r.term) (pos 0)

-- The ops one after another, on values of any kind that variables are read of and written to: an assume goes on only
-- where its row holds, an assignment writes what its term is worth, and a havoc writes the next of the havoc values.
abbrev pub run_on : {S : Type 0} → (S → Var → ℤ) → (S → Var → ℤ → S) → List Op → S → List ℤ → Option S
run_on read write [] s hs = Some s
run_on read write (Assume r ∷ ops) s hs = if holds (read s) r then run_on read write ops s hs else None
run_on read write (Assign x t ∷ ops) s hs = run_on read write ops (write s x (value (read s) t)) hs
run_on read write (Havoc x ∷ ops) s hs = run_on read write ops (write s x (slice_index_or hs 0 (pos 0))) (drop 1 hs)

-- the values that one thread sees after it ran the ops with these havoc values, or none where an assume fails
abbrev pub run : List Op → Values → List ℤ → Option Values
run = run_on value_at with_value

-- the state after a thread ran the ops with these havoc values, or none where an assume fails
abbrev pub run_by : ℕ → List Op → State → List ℤ → Option State
run_by k ops s hs = option_map (with_values k s) (run ops (values_of k s) hs)

-- how many havoc values the ops take
abbrev pub havocs_in : List Op → ℕ
havocs_in [] = 0
havocs_in (Havoc _ ∷ ops) = 1 + havocs_in ops
havocs_in (_ ∷ ops) = havocs_in ops
