use Rattle.std.proofs.Common.{◌≡◌, ◌+◌, drop}
use Rattle.ps_interp.specs.Entries.{place_in}
use Rattle.ps_interp.proofs.numbering.place_in.Given as goal

abbrev pub invariant-loop-place : goal.invariant-loop-place
invariant-loop-place l = l.place + place_in (drop l.place l.names) l.thread ≡ place_in l.names l.thread
