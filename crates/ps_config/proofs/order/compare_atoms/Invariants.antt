use Rattle.std.proofs.Common.{◌≡◌, drop}
use Rattle.std.specs.Cmp.Lexicographic.{slice_cmp}
use Rattle.ps_atom.specs.Atoms.{atom_cmp}
use Rattle.ps_config.proofs.order.compare_atoms.Given as goal

-- what is left decides
abbrev pub invariant-loop-place : goal.invariant-loop-place
invariant-loop-place l = slice_cmp atom_cmp (drop l.place l.one) (drop l.place l.other) ≡ slice_cmp atom_cmp l.one l.other
