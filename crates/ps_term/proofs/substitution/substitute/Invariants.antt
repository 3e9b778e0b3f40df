use Rattle.std.proofs.Common.{drop}
use Rattle.ps_term.proofs.Substitutions.{Substituted, sum_of}
use Rattle.ps_term.proofs.substitution.substitute.Given as goal

abbrev pub invariant-loop-pair : goal.invariant-loop-pair
invariant-loop-pair l = Substituted l.after l.a.pairs l.a.constant (sum_of l.kept.sums.items l.constant) (drop l.pair-index l.pair-items)
