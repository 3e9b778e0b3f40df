use Rattle.std.proofs.Common.{ℕ, ◌<◌}
use Rattle.ps_interp.specs.Cuts.{IsFalseSum}
use Rattle.ps_interp.specs.inner.Parts.{sum_in}
use Rattle.ps_interp.proofs.bounds.least_false.Given as goal

abbrev pub invariant-loop-cut : goal.invariant-loop-cut
invariant-loop-cut l = (cut : ℕ) → cut < l.cut → ¬ IsFalseSum (sum_in l.sums cut)
