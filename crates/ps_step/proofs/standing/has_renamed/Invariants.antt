use Rattle.std.proofs.Common.{◌≡◌, ◌∷◌, take, Contains}
use Rattle.ps_atom.specs.Atoms.{renamed}
use Rattle.ps_atom.specs.declared.atom.Atom.{Atom}
use Rattle.ps_config.specs.Sent.{sent}
use Rattle.ps_step.proofs.standing.has_renamed.Given as goal

abbrev pub invariant-loop-other : goal.invariant-loop-other
invariant-loop-other l = (q : Atom) → Contains (take l.other-index l.atoms) q → ¬ (renamed (sent (0 ∷ l.numbers) (l.thread ∷ l.images)) l.atom ≡ q)
