use Rattle.std.proofs.Common.{◌≡◌, length}
use Rattle.ps_triple.specs.Ascending.{ascend}
use Rattle.ps_triple.proofs.ascending.ascends.Given as goal

abbrev pub invariant-walking : goal.invariant-walking
invariant-walking l = ascend l.atoms ≡ ascend l.rest

abbrev pub decreases-walking : goal.decreases-walking
decreases-walking l = length l.rest
