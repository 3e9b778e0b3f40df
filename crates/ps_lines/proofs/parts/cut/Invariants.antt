use Rattle.std.proofs.Common.{take, drop}
use Rattle.ps_lines.proofs.Cutting.{Cutting}
use Rattle.ps_lines.proofs.parts.cut.Given as goal

abbrev pub invariant-loop-i : goal.invariant-loop-i
invariant-loop-i l = Cutting l.byte (take l.i l.field) (drop l.i l.field) l.field
