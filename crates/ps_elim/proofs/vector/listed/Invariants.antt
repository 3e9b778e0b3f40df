use Rattle.std.proofs.Common.{◌≡◌, take}
use Rattle.ps_elim.proofs.vector.listed.Given as goal

abbrev pub invariant-loop-place : goal.invariant-loop-place
invariant-loop-place l = l.list.items ≡ take l.place l.vector
