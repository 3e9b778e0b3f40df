use Rattle.std.proofs.Common.{◌≡◌, ◌++◌, ℕ, ltb, take}
use Rattle.std.specs.List.{filter}
use Rattle.ps_step.proofs.back.push_above.Given as goal

abbrev pub invariant-loop-place : goal.invariant-loop-place
invariant-loop-place l = l.at.items ≡ l.initial.at.items ++ filter (λ (p : ℕ × ℕ). ltb l.thread p.0) (take l.place-index l.places)
