use Rattle.std.proofs.Common.{◌≡◌, drop}
use Rattle.ps_demand.specs.Demands.{is_renaming}
use Rattle.ps_demand.proofs.renaming.is_one_to_one.Given as goal

abbrev pub invariant-loop-at : goal.invariant-loop-at
invariant-loop-at l = is_renaming (drop l.at l.numbers) (drop l.at l.images) ≡ is_renaming l.numbers l.images
