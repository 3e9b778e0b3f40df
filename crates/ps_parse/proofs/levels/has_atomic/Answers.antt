use Rattle.std.proofs.Common.{arith}
use Rattle.std.proofs.lemmas.Grind.{common_steps}
use Rattle.ps_parse.proofs.Passing.{atomic_turned}
use Rattle.ps_parse.proofs.levels.has_atomic.Goals as goal

pub returns-then-is_atomic_block : goal.returns-then-is_atomic_block
returns-then-is_atomic_block c = rw (atomic_turned c.args.levels.now) (grind (arith, common_steps))

pub returns : goal.returns
returns c = rw (atomic_turned c.args.levels.now) (grind (arith, common_steps))
