use Rattle.ps_atom.proofs.Renamings.{renamed_form}
use Rattle.ps_atom.proofs.laws.renamings_are_one.Goals as goal

pub returns : goal.returns
returns c = λ f ts us r a b. renamed_form f c.args.row.now c.args.renaming.now c.args.one.now c.args.other.now ts us r a b
