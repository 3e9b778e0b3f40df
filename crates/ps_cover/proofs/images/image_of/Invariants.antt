use Rattle.std.proofs.Common.{◌≡◌, drop}
use Rattle.ps_cover.specs.inner.Agreeing.{found}
use Rattle.ps_cover.proofs.images.image_of.Given as goal

-- what is left says where the thread goes
abbrev pub invariant-loop-at : goal.invariant-loop-at
invariant-loop-at l = found (drop l.at l.threads) (drop l.at l.to) l.thread ≡ found l.threads l.to l.thread
