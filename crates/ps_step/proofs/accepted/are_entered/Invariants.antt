use Rattle.std.proofs.Common.{ℕ, take, Contains}
use Rattle.ps_step.proofs.accepted.are_entered.Given as goal

abbrev pub invariant-loop-place : goal.invariant-loop-place
invariant-loop-place l = (p : ℕ × ℕ) → Contains (take l.place-index l.at) p → Contains l.entries p.1
