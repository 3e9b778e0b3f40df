use Rattle.std.proofs.Common.{◌≡◌, ◌+◌, ◌≤◌, drop}
use Rattle.ps_compile.specs.Ops.{assumed_rows}
use Rattle.ps_compile.proofs.limits_edges.count_rows.Given as goal

abbrev pub invariant-loop-op : goal.invariant-loop-op
invariant-loop-op l = (l.rows + assumed_rows (drop l.op-index l.ops) ≡ assumed_rows l.ops) × (l.rows ≤ l.op-index)
