use Rattle.std.proofs.Common.{◌≡◌, ◌++◌, ℕ, ltb, take}
use Rattle.std.specs.List.{filter}
use Rattle.ps_step.proofs.back.push_below.Given as goal

abbrev pub invariant-loop-place : goal.invariant-loop-place
invariant-loop-place l = l.at.items ≡ l.initial.at.items ++ filter (λ (p : ℕ × ℕ). ltb p.0 l.thread) (take l.place-index l.places)
