use Rattle.std.proofs.Common.{take, All}
use Rattle.ps_walk.specs.inner.Findings.{found_values}
use Rattle.ps_walk.specs.Rows.{PassesRow}
use Rattle.ps_walk.proofs.ending.ending_of.Given as goal

abbrev pub invariant-loop-i : goal.invariant-loop-i
invariant-loop-i l = All (PassesRow (found_values l.found)) (take l.i l.rows)
