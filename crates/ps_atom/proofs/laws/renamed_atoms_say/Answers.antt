use Rattle.ps_atom.proofs.RenamedAtoms.{renamed_says}
use Rattle.ps_atom.proofs.laws.renamed_atoms_say.Goals as goal

pub returns : goal.returns
returns c = λ new values h. renamed_says new values c.args.atom.now.threads c.args.predicate.now.row h
