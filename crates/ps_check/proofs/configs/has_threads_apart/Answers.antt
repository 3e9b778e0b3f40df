use Rattle.ps_check.proofs.Naming.{apart_is}
use Rattle.ps_check.proofs.configs.has_threads_apart.Goals as goal

pub returns : goal.returns
returns c = apart_is c.args.config.now c.atoms.result.now c.are_apart.result c.atoms.ensures.list c.are_apart.ensures
