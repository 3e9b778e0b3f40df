use Rattle.std.proofs.Common.{◌∷◌, take, Contains}
use Rattle.ps_atom.specs.Atoms.{renamed}
use Rattle.ps_atom.specs.declared.atom.Atom.{Atom}
use Rattle.ps_config.specs.Sent.{sent}
use Rattle.ps_step.proofs.standing.meets_set.Given as goal

abbrev pub invariant-loop-atom : goal.invariant-loop-atom
invariant-loop-atom l = (p : Atom) → Contains (take l.atom-index l.pre) p → ¬ Contains l.atoms (renamed (sent (0 ∷ l.numbers) (l.thread ∷ l.images)) p)
