use Rattle.std.proofs.Common.{◌≡◌, drop, map}
use Rattle.ps_parse.specs.Inner.Passed.{has_name}
use Rattle.ps_parse.proofs.passed.has_name.Given as goal

abbrev pub invariant-loop-known : goal.invariant-loop-known
invariant-loop-known l = has_name l.name (map (λ n. n.now) (drop l.known-index l.names)) ≡ has_name l.name (map (λ n. n.now) l.names)
