use Rattle.std.proofs.Common.{◌≡◌, take}
use Rattle.ps_check.specs.inner.Index.{locations_of}
use Rattle.ps_check.proofs.located.locations_of.Given as goal

abbrev pub invariant-loop-place : goal.invariant-loop-place
invariant-loop-place l = l.locations.items ≡ locations_of (take l.place-index l.at)
