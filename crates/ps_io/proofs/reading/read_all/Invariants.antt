-- What was read so far is what the source gave, it is within the limit, and no call failed.
use Rattle.std.proofs.Common.{◌≡◌, ◌-◌, ◌<◌, ◌≤◌, length}
use Rattle.std.specs.Io.KnownBytes.{Consumes}
use Rattle.ps_io.proofs.reading.read_all.Given as goal

abbrev pub invariant-reading : goal.invariant-reading
invariant-reading g l = record {
  within : length l.bytes.items ≤ l.most;
  given : Consumes (g.S.Source.left l.fn.source) (g.S.Source.left l.source) l.bytes.items;
  stayed : g.S.Source.faults l.source ≡ g.S.Source.faults l.fn.source;
  room : 0 < length l.piece;
}

abbrev pub decreases-reading : goal.decreases-reading
decreases-reading g l = l.most - length l.bytes.items
