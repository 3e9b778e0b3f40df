use Rattle.std.proofs.Common.{◌≡◌, drop}
use Rattle.ps_elim.specs.Supports.{is_new_after}
use Rattle.ps_elim.specs.inner.Weighing.{vectors_of}
use Rattle.ps_elim.proofs.filter.is_new_after.Given as goal

abbrev pub invariant-loop-other : goal.invariant-loop-other
invariant-loop-other g l =
    is_new_after (vectors_of (drop l.other-index l.others)) l.weighted.vector ≡ is_new_after (vectors_of l.others) l.weighted.vector

abbrev pub ghost-differs : goal.ghost-differs
ghost-differs g a = g.rows
