use Rattle.ps_config.specs.Configurations.{threads_at}
use Rattle.ps_config.proofs.Nexts.{next_is, next_isnt}
use Rattle.ps_config.proofs.threads.occurs.Goals as goal

pub returns-in-Some : goal.returns-in-Some
returns-in-Some c = next_is (threads_at (record { at = c.args.at.now; atoms = c.args.atoms.now })) c.args.thread c.in-Some.next (rw c.from.ensures at c.in-Some.ensures)

pub returns-in-None : goal.returns-in-None
returns-in-None c = next_isnt (threads_at (record { at = c.args.at.now; atoms = c.args.atoms.now })) c.args.thread (rw c.from.ensures at c.in-None.ensures)
