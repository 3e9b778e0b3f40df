use Rattle.std.proofs.Common.{◌≡◌, ◌++◌, drop}
use Rattle.ps_compile.proofs.alternatives.product.Given as goal
use Rattle.ps_graph.specs.Alternatives.{product}

abbrev pub invariant-loop-first : goal.invariant-loop-first
invariant-loop-first l = l.all.items ++ product (drop l.first-index l.firsts) l.seconds ≡ product l.firsts l.seconds
