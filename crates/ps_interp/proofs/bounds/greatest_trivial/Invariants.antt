use Rattle.std.proofs.Common.{ℕ, ◌<◌, ◌≤◌}
use Rattle.ps_interp.specs.Cuts.{IsTrivialSum}
use Rattle.ps_interp.specs.inner.Parts.{sum_in}
use Rattle.ps_interp.proofs.bounds.greatest_trivial.Given as goal

abbrev pub invariant-loop-cut : goal.invariant-loop-cut
invariant-loop-cut l = record {
  within : l.cut ≤ l.below;
  none : (cut : ℕ) → l.cut ≤ cut → cut < l.below → ¬ IsTrivialSum (sum_in l.sums cut);
}

abbrev pub decreases-loop-cut : goal.decreases-loop-cut
decreases-loop-cut l = l.cut
