use Rattle.std.proofs.Common.{vec_len}
use Rattle.ps_member.proofs.Knowing.{IsForth}
use Rattle.ps_member.proofs.forth.gives_false.Given as goal

abbrev pub invariant-loop-cut : goal.invariant-loop-cut
invariant-loop-cut g l = IsForth (g.B.Shown.entries l.basis) l.fn.walk.cuts.items l.cuts.items l.known.items

abbrev pub decreases-loop-cut : goal.decreases-loop-cut
decreases-loop-cut g l = vec_len l.cuts
