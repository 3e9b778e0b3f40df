use Rattle.std.proofs.Common.{All, map}
use Rattle.ps_interp.specs.inner.Parts.{IsWeighedIn, part_of}
use Rattle.ps_interp.proofs.Parting.{Parted}
use Rattle.ps_interp.proofs.weights.weighed_letters.Given as goal

abbrev pub invariant-loop-letter : goal.invariant-loop-letter
invariant-loop-letter l = record {
  parted : Parted l.graph.setting l.graph.edges l.letters l.weights (map part_of l.list.items) l.letter-index l.at;
  each : All (IsWeighedIn l.graph.setting) l.list.items;
}
