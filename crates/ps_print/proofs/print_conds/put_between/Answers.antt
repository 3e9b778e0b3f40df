use Rattle.ps_print.proofs.Putting.{nothing}
use Rattle.ps_print.proofs.print_conds.put_between.Goals as goal

pub returns-then-is_first : goal.returns-then-is_first
returns-then-is_first c = rw c.if-is_first.true (nothing c.args.out.now.items)
