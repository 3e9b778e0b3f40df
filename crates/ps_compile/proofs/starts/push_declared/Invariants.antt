use Rattle.std.proofs.Common.{◌≡◌, ◌++◌, drop}
use Rattle.ps_compile.proofs.starts.push_declared.Given as goal
use Rattle.ps_compile.specs.Compiled.{declared_rows}

abbrev pub invariant-loop-i : goal.invariant-loop-i
invariant-loop-i l = l.rows.items ++ declared_rows l.i (drop l.i l.globals) ≡ l.initial.rows.items ++ declared_rows 0 l.globals
