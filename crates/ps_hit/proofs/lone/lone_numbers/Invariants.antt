use Rattle.std.proofs.Common.{All}
use Rattle.ps_hit.specs.Hitting.{numbers_of}
use Rattle.ps_hit.specs.inner.Searching.{IsLone}
use Rattle.ps_hit.proofs.lone.lone_numbers.Given as goal

abbrev pub invariant-loop-set : goal.invariant-loop-set
invariant-loop-set l = All (IsLone (numbers_of l.sets)) l.lone.items
