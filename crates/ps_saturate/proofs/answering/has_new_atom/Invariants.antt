use Rattle.std.proofs.Common.{◌≡◌, drop, nat_lt, not}
use Rattle.std.specs.List.{list_any}
use Rattle.ps_saturate.proofs.answering.has_new_atom.Given as goal

abbrev pub invariant-loop-atom : goal.invariant-loop-atom
invariant-loop-atom l = list_any (λ q. not (nat_lt q.predicate l.old)) (drop l.atom-index l.set) ≡ list_any (λ q. not (nat_lt q.predicate l.old)) l.set
