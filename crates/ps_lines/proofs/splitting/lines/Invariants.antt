use Rattle.std.proofs.Common.{◌-◌, length}
use Rattle.ps_lines.proofs.LineList.{Going}
use Rattle.ps_lines.proofs.splitting.lines.Given as goal

abbrev pub invariant-going : goal.invariant-going
invariant-going l = Going l.bytes l.first l.start l.number l.lines.items

abbrev pub decreases-going : goal.decreases-going
decreases-going l = length l.bytes - l.start
