use Rattle.std.proofs.Common.{◌≡◌, drop}
use Rattle.ps_cover.specs.inner.Swaps.{maps_swapped}
use Rattle.ps_cover.proofs.swaps.are_swapped.Given as goal

-- what is left says whether all are swapped
abbrev pub invariant-loop-at : goal.invariant-loop-at
invariant-loop-at l = maps_swapped l.one l.other (drop l.at l.threads) (drop l.at l.others) ≡ maps_swapped l.one l.other l.threads l.others
