use Rattle.std.proofs.Common.{◌≡◌, ◌++◌}
use Rattle.std.specs.List.{filter}
use Rattle.std.specs.Vec.Iter.{into_iter_items}
use Rattle.ps_member.specs.inner.Known.{is_met}
use Rattle.ps_member.proofs.forth.given_after.Given as goal

abbrev pub invariant-loop-atom : goal.invariant-loop-atom
invariant-loop-atom g l =
    l.given.items ++ filter (is_met (g.B.Shown.entries l.basis) l.thread l.command l.known) (into_iter_items l.atom-iterator)
    ≡ filter (is_met (g.B.Shown.entries l.basis) l.fn.cut.thread l.fn.cut.command l.known) l.fn.cut.after.items
