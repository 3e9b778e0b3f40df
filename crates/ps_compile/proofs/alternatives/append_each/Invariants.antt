use Rattle.std.proofs.Common.{◌≡◌, ◌++◌, List, map, take}
use Rattle.ps_compile.proofs.alternatives.append_each.Given as goal
use Rattle.ps_term.specs.declared.row.Row.{Row}

abbrev pub invariant-loop-second : goal.invariant-loop-second
invariant-loop-second l =
    l.all.items ≡ l.initial.all.items ++ map (λ (second : List Row). l.first ++ second) (take l.second-index l.seconds)
