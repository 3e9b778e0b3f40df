use Rattle.std.proofs.Common.{◌-◌, ◌^◌}
use Rattle.ps_step.proofs.Meeting.{AreMet}
use Rattle.ps_step.proofs.standing.meets_atom.Given as goal

abbrev pub invariant-loop-n : goal.invariant-loop-n
invariant-loop-n g l = AreMet (g.B.Shown.entries l.basis) l.thread l.command l.atom l.atoms l.from

abbrev pub decreases-loop-n : goal.decreases-loop-n
decreases-loop-n g l = 2 ^ 32 - l.from
