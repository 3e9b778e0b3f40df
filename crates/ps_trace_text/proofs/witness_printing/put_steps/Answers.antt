use Rattle.ps_trace_text.proofs.WitnessPrinted.{printed_step}
use Rattle.ps_trace_text.proofs.witness_printing.put_steps.Goals as goal

pub loop-n-preserved : goal.loop-n-preserved
loop-n-preserved c =
    printed_step c.args.steps.now c.loop-n.n c.thread.result c.choices.result.now _ c.loop-n.out.items c.put_step.new.out.items
    c.thread.ensures c.choices.ensures c.in_ok-put_step.ensures c.loop-n.invariant
