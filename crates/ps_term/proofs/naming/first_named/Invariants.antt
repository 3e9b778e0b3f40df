use Rattle.std.proofs.Common.{◌≡◌, drop}
use Rattle.ps_term.specs.Substitution.{replacement}
use Rattle.ps_term.proofs.naming.first_named.Given as goal

abbrev pub invariant-loop-pair : goal.invariant-loop-pair
invariant-loop-pair l = replacement (drop l.pair-index l.after) l.variable ≡ replacement l.after l.variable
