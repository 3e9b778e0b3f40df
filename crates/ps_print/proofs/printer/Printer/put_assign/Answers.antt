use Rattle.ps_print.proofs.Putting.{chain}
use Rattle.ps_print.proofs.printer.Printer.put_assign.Goals as goal

pub returns : goal.returns
returns c = chain c.in_ok-put_variable.ensures (chain c.in_ok-put_mark.ensures (chain c.in_ok-put_sum.ensures c.in_ok-put_mark-2.ensures))
