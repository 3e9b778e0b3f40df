-- Which states ops can be run on.
use Rattle.std.specs.Prelude.{◌≡◌, ℕ, ℤ, ◌<◌, List, [], length, slice_index_or, IsTrue, All}
use Rattle.std.specs.List.{list_all}
use Rattle.ps_command.specs.Named.{is_declared_op}
use Rattle.ps_command.specs.declared.op.Op.{Op}
use Rattle.ps_command.specs.declared.setting.Setting.{Setting}
use Rattle.ps_command.specs.declared.state.State.{State}

-- each declared variable has a value, and no other has one
pub record IsSized (setting : Setting) (s : State) : Type 0 where
  pub globals : length s.globals ≡ setting.globals
  pub locals : All (λ (values : List ℤ). length values ≡ setting.locals) s.locals

-- the state has the thread, and each variable that the ops name
pub record CanRun (thread : ℕ) (ops : List Op) (s : State) : Type 0 where
  pub within : thread < length s.locals
  pub named : IsTrue (list_all (is_declared_op (length s.globals) (length (slice_index_or s.locals thread []))) ops)
