use Rattle.std.proofs.Common.{◌≡◌, ◌++◌}
use Rattle.ps_triple.proofs.placing.in_order.Given as goal

abbrev pub invariant-loop-pair : goal.invariant-loop-pair
invariant-loop-pair l = l.list.items ++ l.pair-iterator ≡ l.fn.placed.entries
