use Rattle.std.proofs.Common.{◌≡◌, drop, nat_lt, not}
use Rattle.std.specs.List.{list_any}
use Rattle.ps_saturate.proofs.walk.has_new_choice.Given as goal

abbrev pub invariant-loop-choice : goal.invariant-loop-choice
invariant-loop-choice l =
    list_any (λ r. not (nat_lt r.now.atom.predicate l.old)) (drop l.choice-index l.set) ≡ list_any (λ r. not (nat_lt r.now.atom.predicate l.old)) l.set
