use Rattle.ps_atom.proofs.Own.{own_canonical}
use Rattle.ps_atom.proofs.laws.is_its_own.Goals as goal

pub returns : goal.returns
returns c = λ ts a. own_canonical c.args.row.now c.args.predicate.now ts a
