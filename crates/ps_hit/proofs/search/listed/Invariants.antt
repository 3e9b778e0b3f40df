use Rattle.std.proofs.Common.{◌≡◌, ◌++◌}
use Rattle.ps_hit.specs.Hitting.{numbers_of}
use Rattle.ps_hit.proofs.search.listed.Given as goal

abbrev pub invariant-loop-list : goal.invariant-loop-list
invariant-loop-list l = l.lists.items ++ numbers_of l.list-iterator ≡ numbers_of l.fn.found.keys
