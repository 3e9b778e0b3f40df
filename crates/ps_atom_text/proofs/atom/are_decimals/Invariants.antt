use Rattle.std.proofs.Common.{[], length}
use Rattle.std.specs.Option.{option_map_or}
use Rattle.ps_atom_text.specs.Reading.{between_commas}
use Rattle.ps_atom_text.proofs.Threads.{Counted}
use Rattle.ps_atom_text.proofs.atom.are_decimals.Given as goal

abbrev pub invariant-looking : goal.invariant-looking
invariant-looking l = Counted (option_map_or (λ r. between_commas r.now) l.left []) (between_commas l.list)

abbrev pub decreases-looking : goal.decreases-looking
decreases-looking l = length (option_map_or (λ r. between_commas r.now) l.left [])
