use Rattle.ps_atom.proofs.Facts.{one_form}
use Rattle.ps_atom.proofs.laws.one_form.Goals as goal

pub returns : goal.returns
returns c = λ ts us a b. one_form c.args.row.now c.args.one.now c.args.other.now ts us a b
