use Rattle.std.proofs.Common.{◌≡◌, drop}
use Rattle.ps_elim.specs.Supports.{stays_beside}
use Rattle.ps_elim.specs.inner.Weighing.{vectors_of}
use Rattle.ps_elim.proofs.filter.stays_beside.Given as goal

abbrev pub invariant-loop-other : goal.invariant-loop-other
invariant-loop-other g l =
    stays_beside (vectors_of (drop l.other-index l.others)) l.weighted.vector ≡ stays_beside (vectors_of l.others) l.weighted.vector

abbrev pub ghost-stays_by : goal.ghost-stays_by
ghost-stays_by g a = g.rows
