use Rattle.ps_atom.proofs.Facts.{multiple_form}
use Rattle.ps_atom.proofs.laws.multiples_are_one.Goals as goal

pub returns : goal.returns
returns c = λ k ts m a. multiple_form k c.args.row.now c.args.multiple.now c.args.predicate.now ts m.positive m.coefficients m.constant a
