use Rattle.std.proofs.Common.{take, map, ℕ}
use Rattle.ps_config.specs.Next.{IsNextThread}
use Rattle.ps_config.proofs.threads.next_located.Given as goal

abbrev pub invariant-loop-place : goal.invariant-loop-place
invariant-loop-place l = IsNextThread (map (λ (p : ℕ × ℕ). p.0) (take l.place-index l.at)) l.from l.best
