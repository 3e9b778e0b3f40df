use Rattle.std.proofs.Common.{◌≡◌, ◌++◌, drop}
use Rattle.ps_compile.proofs.Alternating.{rows_of}
use Rattle.ps_compile.proofs.alternatives.+alternatives.Given as goal
use Rattle.ps_compile.specs.inner.Members.{any_of, each_of}
use Rattle.ps_graph.specs.Alternatives.{product}

abbrev pub invariant-one_of_each-loop-member : goal.invariant-one_of_each-loop-member
invariant-one_of_each-loop-member l =
    product l.all.items (rows_of (each_of l.holds (drop l.member-index l.members))) ≡ rows_of (each_of l.holds l.members)

abbrev pub invariant-one_of_any-loop-member : goal.invariant-one_of_any-loop-member
invariant-one_of_any-loop-member l =
    l.all.items ++ rows_of (any_of l.holds (drop l.member-index l.members)) ≡ rows_of (any_of l.holds l.members)
