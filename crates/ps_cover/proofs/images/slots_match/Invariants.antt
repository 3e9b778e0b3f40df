use Rattle.std.proofs.Common.{◌≡◌, drop}
use Rattle.ps_cover.specs.inner.Agreeing.{slots_agree}
use Rattle.ps_cover.proofs.images.slots_match.Given as goal

-- what is left says whether all agree
abbrev pub invariant-loop-at : goal.invariant-loop-at
invariant-loop-at l = slots_agree l.threads l.to (drop l.at l.ones) (drop l.at l.others) ≡ slots_agree l.threads l.to l.ones l.others
