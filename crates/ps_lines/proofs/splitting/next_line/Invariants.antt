use Rattle.std.proofs.Common.{◌-◌, length}
use Rattle.ps_lines.proofs.LineList.{Spanning}
use Rattle.ps_lines.proofs.splitting.next_line.Given as goal

abbrev pub invariant-cutting : goal.invariant-cutting
invariant-cutting l = Spanning l.bytes l.start l.at l.list.items

abbrev pub decreases-cutting : goal.decreases-cutting
decreases-cutting l = length l.bytes - l.at
