use Rattle.ps_check.proofs.Adding.{atoms_same}
use Rattle.ps_check.proofs.branches.is_same.Goals as goal

pub returns : goal.returns
returns c = atoms_same c.args.one.now c.args.other.now c.is_eq.result c.compare.result c.is_eq.ensures c.compare.ensures
