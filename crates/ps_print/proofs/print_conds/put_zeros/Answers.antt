use Rattle.ps_print.proofs.Putting.{chain}
use Rattle.ps_print.proofs.print_conds.put_zeros.Goals as goal

pub returns : goal.returns
returns c = chain c.in_ok-put_number.ensures (chain c.in_ok-put_mark.ensures c.in_ok-put_number-2.ensures)
