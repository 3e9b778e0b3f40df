use Rattle.std.proofs.Common.{◌≡◌, drop}
use Rattle.ps_config.specs.Sent.{sent}
use Rattle.ps_cover_tests.proofs.embeds.image_of.Given as goal

-- what is left says where the thread goes
abbrev pub invariant-loop-at : goal.invariant-loop-at
invariant-loop-at l = sent (drop l.at l.threads) (drop l.at l.to) l.thread ≡ sent l.threads l.to l.thread
