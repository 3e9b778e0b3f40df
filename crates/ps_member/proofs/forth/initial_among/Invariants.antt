use Rattle.std.proofs.Common.{◌≡◌, ◌++◌}
use Rattle.std.specs.List.{filter}
use Rattle.std.specs.Vec.Iter.{into_iter_items}
use Rattle.ps_member.specs.inner.Known.{is_initial_in}
use Rattle.ps_member.proofs.forth.initial_among.Given as goal

abbrev pub invariant-loop-atom : goal.invariant-loop-atom
invariant-loop-atom g l = l.known.items ++ filter (is_initial_in (g.B.Shown.entries l.basis)) (into_iter_items l.atom-iterator) ≡ filter (is_initial_in (g.B.Shown.entries l.basis)) l.fn.atoms.items
