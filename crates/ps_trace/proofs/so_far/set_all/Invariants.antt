use Rattle.std.proofs.Common.{◌≡◌, vec_len}
use Rattle.ps_trace.specs.Rows.{with_terms}
use Rattle.ps_trace.proofs.so_far.set_all.Given as goal

abbrev pub invariant-loop-variable : goal.invariant-loop-variable
invariant-loop-variable l = with_terms l.left.items l.after ≡ with_terms l.fn.terms.items l.fn.after

abbrev pub decreases-loop-variable : goal.decreases-loop-variable
decreases-loop-variable l = vec_len l.left
