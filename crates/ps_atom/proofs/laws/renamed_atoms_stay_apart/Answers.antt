use Rattle.ps_atom.proofs.RenamedAtoms.{renamed_apart}
use Rattle.ps_atom.proofs.laws.renamed_atoms_stay_apart.Goals as goal

pub returns : goal.returns
returns c = λ new i a. renamed_apart new c.args.atom.now.threads i a
