use Rattle.std.proofs.Common.{pos, ◌^◌, FitsSigned, arith}
use Rattle.std.specs.Int.{w128}
use Rattle.std.proofs.lemmas.Int.{ints}
use Rattle.ps_term.proofs.worked.sums.Goals as goal

-- 2^127 is past 128 bits
too_great : FitsSigned w128 (pos (2 ^ 127)) → ⊥
too_great h = let within = h.sfits in omega (arith, ints, within)

pub returns-clause-partial : goal.returns-clause-partial
returns-clause-partial c = λ f. too_great f.2.1.1

pub returns-clause-evaluated : goal.returns-clause-evaluated
returns-clause-evaluated c = λ f. too_great f.1.0.1
