use Rattle.std.proofs.Common.{◌≡◌, ◌∷◌, take, map}
use Rattle.ps_atom.specs.Atoms.{renamed}
use Rattle.ps_config.specs.Sent.{sent}
use Rattle.ps_demand.proofs.renaming.renamed_atoms.Given as goal

abbrev pub invariant-loop-atom : goal.invariant-loop-atom
invariant-loop-atom l = l.new.items ≡ map (renamed (sent (0 ∷ l.numbers) (l.thread ∷ l.images))) (take l.atom-index l.atoms)
