use Rattle.std.proofs.Common.{◌≡◌, ◌∷◌, map, take}
use Rattle.ps_config.specs.Sent.{sent}
use Rattle.ps_step.proofs.standing.are_images.Given as goal

abbrev pub invariant-loop-place : goal.invariant-loop-place
invariant-loop-place l = map (sent (0 ∷ l.numbers) (l.thread ∷ l.images)) (take l.place l.threads) ≡ take l.place l.others
