use Rattle.std.proofs.Common.{[], length}
use Rattle.std.specs.Option.{option_map_or}
use Rattle.ps_atom_text.specs.Reading.{between_commas}
use Rattle.ps_atom_text.proofs.Threads.{Numbered}
use Rattle.ps_atom_text.proofs.atom.read_threads.Given as goal

abbrev pub invariant-reading : goal.invariant-reading
invariant-reading l = Numbered l.most l.threads (option_map_or (λ r. between_commas r.now) l.left []) (between_commas l.list)

abbrev pub decreases-reading : goal.decreases-reading
decreases-reading l = length (option_map_or (λ r. between_commas r.now) l.left [])
