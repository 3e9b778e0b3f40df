-- The initial states of a setting.
use Rattle.std.specs.Prelude.{◌≡◌, ℕ, ℤ, ◌<◌, List, length, IsTrue, All}
use Rattle.std.specs.List.{list_all}
use Rattle.ps_command.specs.Run.{holds}
use Rattle.ps_command.specs.Values.{values_of, value_at}
use Rattle.ps_command.specs.declared.setting.Setting.{Setting}
use Rattle.ps_command.specs.declared.state.State.{State}

-- There is a thread, each declared variable has a value, the rows on globals hold, and those that name a local hold
-- for every thread.
pub record IsInitial (setting : Setting) (s : State) : Type 0 where
  pub threads : 0 < length s.locals
  pub globals : length s.globals ≡ setting.globals
  pub locals : All (λ (values : List ℤ). length values ≡ setting.locals) s.locals
  pub once : IsTrue (list_all (holds (value_at (values_of 0 s))) setting.init_once)
  pub each : (k : ℕ) → k < length s.locals → IsTrue (list_all (holds (value_at (values_of k s))) setting.init_each)
