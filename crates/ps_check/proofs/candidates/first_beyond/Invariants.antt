use Rattle.std.proofs.Common.{take}
use Rattle.ps_cover.specs.Within.{IsWithinList}
use Rattle.ps_check.proofs.candidates.first_beyond.Given as goal

abbrev pub invariant-loop-place : goal.invariant-loop-place
invariant-loop-place l = IsWithinList (take l.place l.locations) l.others
