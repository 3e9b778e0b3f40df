use Rattle.std.proofs.Common.{◌≡◌, drop}
use Rattle.std.specs.List.{list_any}
use Rattle.ps_demand.specs.Pools.{lists_of}
use Rattle.ps_member.specs.inner.Known.{are_among}
use Rattle.ps_member.proofs.known.some_are_among.Given as goal

abbrev pub invariant-loop-set : goal.invariant-loop-set
invariant-loop-set l = list_any (are_among l.known) (lists_of (drop l.set-index l.sets)) ≡ list_any (are_among l.known) (lists_of l.sets)
