use Rattle.std.proofs.Common.{◌≡◌, drop, length}
use Rattle.std.specs.Int.{div_ceil}
use Rattle.ps_elim.proofs.Placing.{AreMarks}
use Rattle.ps_elim.proofs.words.words_of.Given as goal

abbrev pub invariant-loop-pair : goal.invariant-loop-pair
invariant-loop-pair l = record {
  enough : length l.words.items ≡ div_ceil l.places 64;
  marks : AreMarks l.entries l.words.items (drop l.pair-index l.entries.pairs);
}
