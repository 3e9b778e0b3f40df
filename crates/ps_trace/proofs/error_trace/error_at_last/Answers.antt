use Rattle.std.proofs.Common.{sym, ◌∙◌}
use Rattle.ps_trace.proofs.Following.{error_stops}
use Rattle.ps_trace.proofs.error_trace.error_at_last.Goals as goal

pub returns-then-enters_error : goal.returns-then-enters_error
returns-then-enters_error c =
    sym (error_stops c.args.edges.now c.args.letters.now c.loop-i.i (record { thread = 0; edge = 0 }) c.loop-i-test.true (sym c.enters_error.ensures ∙ c.if-enters_error.true))
    ∙ c.loop-i.invariant
