use Rattle.std.proofs.Common.{◌≡◌, ◌∷◌, take}
use Rattle.ps_atom.specs.Numbers.{false_predicate}
use Rattle.ps_check.proofs.entries.table_of.Given as goal

abbrev pub invariant-loop-predicate : goal.invariant-loop-predicate
invariant-loop-predicate l = l.table ≡ false_predicate ∷ take l.predicate-index l.proof.predicates
