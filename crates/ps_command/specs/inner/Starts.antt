-- Rows that hold for each thread.
use Rattle.std.specs.Prelude.{ℤ, Bool, List}
use Rattle.std.specs.List.{list_all}
use Rattle.ps_command.specs.Run.{holds}
use Rattle.ps_command.specs.Values.{value_at}
use Rattle.ps_term.specs.declared.row.Row.{Row}

-- the rows hold of these globals with the locals of each thread
abbrev pub all_start : List Row → List ℤ → List (List ℤ) → Bool
all_start rows globals lss = list_all (λ (ls : List ℤ). list_all (holds (value_at (record { globals = globals; locals = ls }))) rows) lss
