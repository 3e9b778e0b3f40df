use Rattle.std.proofs.Common.{◌≡◌, take}
use Rattle.std.specs.List.{flat_map, fold}
use Rattle.ps_interp.specs.inner.Keys.{atom_fed}
use Rattle.ps_interp.proofs.entry_key.hash_atoms.Given as goal

abbrev pub invariant-loop-atom : goal.invariant-loop-atom
invariant-loop-atom g l = l.state ≡ fold g.H.Hasher.write l.fn.state (flat_map atom_fed (take l.atom-index l.atoms))
