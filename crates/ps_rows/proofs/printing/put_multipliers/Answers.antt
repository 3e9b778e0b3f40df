use Rattle.std.specs.Prelude.{codes}
use Rattle.std.proofs.lemmas.Result.{IfOk-equal}
use Rattle.ps_rows.proofs.Laws.{printed_numbers}
use Rattle.ps_rows.proofs.printing.put_multipliers.Goals as goal

pub returns : goal.returns
returns c = IfOk-equal c.put_end.result _ _ _ c.put_end.ensures (printed_numbers c.args.out.now.items (codes "by") c.put_word.new.out.items c.put_numbers.new.out.items c.args.numbers.now c.in_ok-put_word.ensures c.in_ok-put_numbers.ensures)
