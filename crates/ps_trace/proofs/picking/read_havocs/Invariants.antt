use Rattle.std.proofs.Common.{◌≡◌, drop}
use Rattle.ps_graph.specs.Picks.{havocs_of}
use Rattle.ps_trace.specs.inner.Picking.{havocs_from}
use Rattle.ps_trace.proofs.picking.read_havocs.Given as goal

abbrev pub invariant-loop-i : goal.invariant-loop-i
invariant-loop-i l = havocs_of l.picks l.choices ≡ havocs_from l.havocs.items (drop l.i l.picks) (drop l.i l.choices)
