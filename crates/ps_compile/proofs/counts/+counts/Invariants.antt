use Rattle.std.proofs.Common.{◌≡◌, ◌+◌, ◌*◌, ◌≤◌, min, length, drop}
use Rattle.ps_compile.specs.inner.Members.{any_of, each_of}
use Rattle.ps_compile.proofs.counts.+counts.Given as goal

abbrev pub invariant-count_any-loop-member : goal.invariant-count_any-loop-member
invariant-count_any-loop-member l = (min (l.all + length (any_of l.holds (drop l.member-index l.members))) 65 ≡ min (length (any_of l.holds l.members)) 65) × (l.all ≤ 65)

abbrev pub invariant-count_each-loop-member : goal.invariant-count_each-loop-member
invariant-count_each-loop-member l = (min (l.all * length (each_of l.holds (drop l.member-index l.members))) 65 ≡ min (length (each_of l.holds l.members)) 65) × (l.all ≤ 65)
