-- What it is that a run in a state and a symbolic form agree.
use Rattle.std.specs.Prelude.{◌≡◌, ◌≢◌, ℕ, ℤ, [], length, slice_index_or, IsTrue}
use Rattle.std.specs.List.{list_all}
use Rattle.ps_command.specs.Run.{holds}
use Rattle.ps_command.specs.Values.{value_in}
use Rattle.ps_command.specs.declared.state.State.{State}
use Rattle.ps_command.specs.declared.symbolic_form.SymbolicForm.{SymbolicForm}
use Rattle.ps_term.specs.Substitution.{values_after}
use Rattle.ps_term.specs.declared.var.Var.{Var}
use Rattle.ps_term.specs.declared.var.Var.TheVariants.{Global, Local}

-- the values give the globals of the state, and the thread's locals as those of thread 0, by which ops name them
pub record AreSeenBy (thread : ℕ) (s : State) (values : Var → ℤ) : Type 0 where
  pub globals : (n : ℕ) → values (Global n) ≡ value_in s (Global n)
  pub locals : (n : ℕ) → values (Local 0 n) ≡ value_in s (Local thread n)

-- The rows of the form hold; after the run the thread sees the values that the form says; all else is as before.
pub record RanAs (thread : ℕ) (form : SymbolicForm) (values : Var → ℤ) (before after : State) : Type 0 where
  pub rows : IsTrue (list_all (holds values) form.rows)
  pub seen : AreSeenBy thread after (values_after values form.after)
  pub threads : length after.locals ≡ length before.locals
  pub others : (k : ℕ) → k ≢ thread → slice_index_or after.locals k [] ≡ slice_index_or before.locals k []
  pub unnamed : (k n : ℕ) → k ≢ 0 → values_after values form.after (Local k n) ≡ values (Local k n)
