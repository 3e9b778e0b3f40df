use Rattle.std.proofs.Common.{◌≡◌, drop}
use Rattle.ps_cover_tests.specs.Embedding.{are_sent}
use Rattle.ps_cover_tests.proofs.embeds.are_images.Given as goal

-- what is left says whether all are images
abbrev pub invariant-loop-at : goal.invariant-loop-at
invariant-loop-at l = are_sent l.threads l.to (drop l.at l.ones) (drop l.at l.others) ≡ are_sent l.threads l.to l.ones l.others
