-- What was read before and the piece that passes the limit are more than the limit.
use Rattle.std.proofs.Common.{◌++◌, arith, take}
use Rattle.ps_io.proofs.Pieces.{length-more}
use Rattle.std.proofs.KnownBytes.{Consumes-trans}
use Rattle.ps_io.proofs.reading.read_all.Goals as goal

pub returns-then-count-most-clause-long : goal.returns-then-count-most-clause-long
returns-then-count-most-clause-long g c = λ _. (
  c.reading.bytes.items ++ take c.in-Ok.count c.take.new.into,
  Consumes-trans _ _ _ c.reading.bytes.items (take c.in-Ok.count c.take.new.into) c.reading.invariant.given c.in-Ok.ensures.bytes.0,
  omega (arith, length-more c.reading.bytes.items c.take.new.into c.in-Ok.count c.in-Ok.ensures.bound.0),
)
