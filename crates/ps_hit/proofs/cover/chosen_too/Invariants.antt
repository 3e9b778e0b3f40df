use Rattle.std.proofs.Common.{◌≡◌, ◌++◌, drop}
use Rattle.ps_hit.specs.Hitting.{numbers_of}
use Rattle.ps_hit.specs.inner.Covers.{covers_with}
use Rattle.ps_hit.proofs.cover.chosen_too.Given as goal

abbrev pub invariant-loop-at : goal.invariant-loop-at
invariant-loop-at l =
    l.after.items ++ covers_with l.number (numbers_of (drop l.at l.sets)) (drop l.at l.covers) ≡ covers_with l.number (numbers_of l.sets) l.covers
