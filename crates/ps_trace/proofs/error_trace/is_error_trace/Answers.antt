use Rattle.std.proofs.Common.{◌≡◌, true, false, sym, ap, ◌∙◌}
use Rattle.ps_trace.specs.Traces.{pairs_in, pairs_of}
use Rattle.ps_trace.proofs.Begins.{error_trace_is, no_error_trace}
use Rattle.ps_trace.proofs.error_trace.is_error_trace.Goals as goal

false_true : false ≡ true → ⊥
false_true e = cc

pub returns-then-run_bodies : goal.returns-then-run_bodies
returns-then-run_bodies c =
    error_trace_is c.args.graph.now c.as_slice.result.now (pairs_in c.as_slice-letters.result.now) (pairs_of c.args.trace.now) c.run_bodies.result c.error_at_last.result
    c.as_slice.ensures (ap pairs_in c.as_slice-letters.ensures) c.run_bodies.ensures c.if-run_bodies.true c.error_at_last.ensures

pub returns-else-run_bodies : goal.returns-else-run_bodies
returns-else-run_bodies c = (
  λ f. absurd (false_true (sym c.if-run_bodies.false ∙ f)),
  λ h. absurd (no_error_trace c.args.graph.now (pairs_in c.as_slice-letters.result.now) (pairs_of c.args.trace.now) c.run_bodies.result
      (ap pairs_in c.as_slice-letters.ensures) c.run_bodies.ensures c.if-run_bodies.false h),
)
