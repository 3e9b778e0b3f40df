use Rattle.std.proofs.Common.{Vec, Global, ℤ, None}
use Rattle.std.proofs.lemmas.Result.{err_from_is_err_and}
use Rattle.ps_list.specs.declared.sequence.Sequence.{Sequence}
use Rattle.ps_trace_text.specs.WitnessReading.{all_locals_at}
use Rattle.ps_trace_text.proofs.ThreadLines.{lines_fail}
use Rattle.ps_trace_text.proofs.witness_reading.take_all_locals.Goals as goal

pub returns-in_err-locals : goal.returns-in_err-locals
returns-in_err-locals c =
    let p = err_from_is_err_and c.from_residual.result c.from_residual.ensures.1 in
    rw (p.1, p.2)
    (lines_fail (λ (v : Vec (Sequence ℤ) Global). v.items) c.loop-thread.list.items c.args.count c.loop-thread.thread c.loop-thread.before c.loop-thread.reader c.take_locals.new.reader c.take_locals.new.reader c.in_err-locals.field-0.0
    (all_locals_at None c.args.count c.args.reader.now) c.loop-thread.invariant c.loop-thread-test.true c.in_err-locals.ensures)
