use Rattle.std.proofs.Common.{◌≡◌, take}
use Rattle.std.specs.List.{filter}
use Rattle.ps_elim.specs.inner.Weighing.{coefficient_in, is_of, pointed_to}
use Rattle.ps_elim.proofs.sign.with_sign.Given as goal

abbrev pub invariant-loop-weighted : goal.invariant-loop-weighted
invariant-loop-weighted l =
    pointed_to l.list.items ≡ filter (λ w. is_of l.sign (coefficient_in l.variable w)) (take l.weighted-index l.set)
