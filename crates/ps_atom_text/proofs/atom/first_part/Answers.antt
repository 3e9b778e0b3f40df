use Rattle.ps_atom_text.proofs.Commas.{first_of, only_part}
use Rattle.ps_atom_text.proofs.atom.first_part.Goals as goal

pub returns-in-Some : goal.returns-in-Some
returns-in-Some c = first_of c.args.list.now _ _ (rw c.in-Some.is at c.cut.ensures)

pub returns-in-None : goal.returns-in-None
returns-in-None c = only_part c.args.list.now (rw c.in-None.is at c.cut.ensures)
