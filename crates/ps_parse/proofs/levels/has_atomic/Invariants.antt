use Rattle.std.proofs.Common.{◌≡◌, drop}
use Rattle.ps_parse.specs.Inner.Passed.{has_atomic}
use Rattle.ps_parse.proofs.levels.has_atomic.Given as goal

abbrev pub invariant-loop-level : goal.invariant-loop-level
invariant-loop-level l = has_atomic (drop l.level-index l.levels) ≡ has_atomic l.levels
