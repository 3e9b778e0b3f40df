use Rattle.ps_print.proofs.Putting.{chain}
use Rattle.ps_print.proofs.printer.Printer.put_havoc.Goals as goal

pub returns : goal.returns
returns c = chain c.in_ok-put_mark.ensures (chain c.in_ok-put_variable.ensures c.in_ok-put_mark-2.ensures)
