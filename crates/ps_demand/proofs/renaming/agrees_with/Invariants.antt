use Rattle.std.proofs.Common.{◌≡◌, drop}
use Rattle.ps_demand.specs.Demands.{agrees}
use Rattle.ps_demand.proofs.renaming.agrees_with.Given as goal

abbrev pub invariant-loop-at : goal.invariant-loop-at
invariant-loop-at l = agrees l.number l.image (drop l.at l.numbers) (drop l.at l.images) ≡ agrees l.number l.image l.numbers l.images
