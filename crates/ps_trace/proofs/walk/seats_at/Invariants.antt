use Rattle.std.proofs.Common.{◌≡◌, map}
use Rattle.ps_trace.specs.inner.Trying.{seat_of, seats_from}
use Rattle.ps_trace.proofs.walk.seats_at.Given as goal

abbrev pub invariant-loop-values : goal.invariant-loop-values
invariant-loop-values l = map seat_of l.seats.items ≡ seats_from l.location l.yielded
