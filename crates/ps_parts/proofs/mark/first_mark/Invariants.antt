-- No mark was passed.
use Rattle.std.proofs.Common.{ℕ, ◌≤◌}
use Rattle.ps_parts.specs.Cuts.{IsMarkAt}
use Rattle.ps_parts.proofs.mark.first_mark.Given as goal

abbrev pub invariant-loop-place : goal.invariant-loop-place
invariant-loop-place l = (other : ℕ) → IsMarkAt l.input other → l.place ≤ other
