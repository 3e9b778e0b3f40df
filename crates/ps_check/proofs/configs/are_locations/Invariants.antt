use Rattle.std.proofs.Common.{◌≢◌, ◌<◌, ℕ, take, Contains}
use Rattle.ps_check.proofs.configs.are_locations.Given as goal

abbrev pub invariant-loop-place : goal.invariant-loop-place
invariant-loop-place l = (p : ℕ × ℕ) → Contains (take l.place-index l.at) p → (p.1 < l.locations) × (p.1 ≢ 1)
