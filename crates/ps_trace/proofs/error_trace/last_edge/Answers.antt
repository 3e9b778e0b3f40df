use Rattle.std.proofs.Common.{◌≡◌, ◌<◌, ◌+◌, ◌-◌, ℕ, length, drop, ap, ◌∙◌, arith}
use Rattle.ps_graph.specs.ErrorTrace.{edges_of}
use Rattle.ps_trace.specs.Traces.{pairs_in}
use Rattle.ps_trace.proofs.Following.{last_here}
use Rattle.ps_trace.proofs.error_trace.last_edge.Goals as goal

pub returns-then-before-left : goal.returns-then-before-left
returns-then-before-left c =
    let i = c.loop-left.left - 1 in
    let more : (c.loop-left.left - 1) + 1 ≡ c.loop-left.left = omega arith in
    let within : c.loop-left.left - 1 < length c.args.before.now = omega arith in
    last_here c.args.thread c.args.before.now (c.loop-left.left - 1) (record { thread = 0; edge = 0 }) within
    (ap (λ (n : ℕ). edges_of c.args.thread (pairs_in (drop n c.args.before.now))) more ∙ c.loop-left.invariant.none) c.if-before-left.true
