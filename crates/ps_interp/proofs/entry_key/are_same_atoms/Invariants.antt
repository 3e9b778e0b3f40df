use Rattle.std.proofs.Common.{◌≡◌, drop}
use Rattle.std.specs.Cmp.Lexicographic.{pointwise}
use Rattle.ps_interp.specs.inner.Keys.{atom_eq}
use Rattle.ps_interp.proofs.entry_key.are_same_atoms.Given as goal

abbrev pub invariant-loop-place : goal.invariant-loop-place
invariant-loop-place l = pointwise atom_eq l.one l.other ≡ pointwise atom_eq (drop l.place l.one) (drop l.place l.other)
