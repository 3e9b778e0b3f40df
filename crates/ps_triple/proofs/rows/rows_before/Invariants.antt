use Rattle.std.proofs.Common.{◌≡◌, map, take}
use Rattle.ps_triple.specs.Rows.{atom_row}
use Rattle.ps_triple.proofs.rows.rows_before.Given as goal

abbrev pub invariant-loop-atom : goal.invariant-loop-atom
invariant-loop-atom l = l.rows.items ≡ map (atom_row l.predicates) (take l.atom-index l.atoms)
