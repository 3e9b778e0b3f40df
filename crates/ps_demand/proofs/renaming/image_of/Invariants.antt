use Rattle.std.proofs.Common.{◌≡◌, drop}
use Rattle.ps_config.specs.Sent.{sent}
use Rattle.ps_demand.proofs.renaming.image_of.Given as goal

abbrev pub invariant-loop-at : goal.invariant-loop-at
invariant-loop-at l = sent (drop l.at l.numbers) (drop l.at l.images) l.number ≡ sent l.numbers l.images l.number
