use Rattle.std.proofs.Common.{◌≡◌, [], ◌∷◌, ◌++◌, map, take}
use Rattle.ps_atom.specs.Atoms.{at_threads}
use Rattle.ps_triple.specs.Places.{row_by}
use Rattle.ps_triple.proofs.rows.push_rows_of.Given as goal

abbrev pub invariant-loop-row : goal.invariant-loop-row
invariant-loop-row l = l.rows.items ≡ l.initial.rows.items ++ map (row_by (at_threads (l.thread ∷ []))) (take l.row-index l.row-items)
