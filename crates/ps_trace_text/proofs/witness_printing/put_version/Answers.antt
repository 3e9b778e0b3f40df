use Rattle.std.specs.Prelude.{codes}
use Rattle.std.proofs.lemmas.Result.{IfOk-equal}
use Rattle.ps_trace_text.proofs.WitnessPrinted.{printed_field}
use Rattle.ps_trace_text.proofs.witness_printing.put_version.Goals as goal

pub returns : goal.returns
returns c =
    IfOk-equal c.put_end.result _ _ _ c.put_end.ensures
    (printed_field c.args.out.now.items (codes "witness") (codes "1") c.put_word.new.out.items c.put_field.new.out.items c.in_ok-put_word.ensures c.in_ok-put_field.ensures)
