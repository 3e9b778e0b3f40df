use Rattle.std.specs.Prelude.{codes}
use Rattle.std.proofs.lemmas.Result.{IfOk-equal}
use Rattle.ps_trace_text.proofs.WitnessPrinted.{printed_numbered}
use Rattle.ps_trace_text.proofs.witness_printing.put_step.Goals as goal

pub returns : goal.returns
returns c =
    IfOk-equal c.put_end.result _ _ _ c.put_end.ensures
    (printed_numbered c.args.out.now.items (codes "step") c.put_word.new.out.items c.put_natural.new.out.items c.put_values.new.out.items c.args.thread c.args.choices.now
    c.in_ok-put_word.ensures c.in_ok-put_natural.ensures c.in_ok-put_values.ensures)
