use Rattle.std.proofs.Common.{take, None}
use Rattle.ps_farkas.specs.inner.Walk.{IsNextVariable}
use Rattle.ps_farkas.proofs.walk.first_variable.Given as goal

abbrev pub invariant-loop-i : goal.invariant-loop-i
invariant-loop-i l = IsNextVariable None (take l.i l.rows) l.first
