use Rattle.std.proofs.Common.{◌≡◌, ◌∷◌, take, map}
use Rattle.ps_config.specs.Sent.{sent}
use Rattle.ps_demand.proofs.renaming.renamed_atom.Given as goal

abbrev pub invariant-loop-number : goal.invariant-loop-number
invariant-loop-number l = l.threads ≡ map (sent (0 ∷ l.numbers) (l.thread ∷ l.images)) (take l.number-index l.number-items)
