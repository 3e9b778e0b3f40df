use Rattle.std.proofs.Common.{◌≤◌, [], drop, length, map, reverse}
use Rattle.ps_interp.specs.Entries.{false_triple}
use Rattle.ps_interp.specs.Firsts.{AreFirst}
use Rattle.ps_interp.specs.declared.weights.WeighedLetter.{WeighedLetter}
use Rattle.ps_interp.proofs.meeting.false_triples.Given as goal

abbrev pub invariant-loop-left : goal.invariant-loop-left
invariant-loop-left l = record {
  within : l.left ≤ length l.letters;
  above : l.cuts.high ≤ l.left;
  first : AreFirst [] (map (λ (w : WeighedLetter). false_triple l.cuts.setting.now w.command) (reverse (drop l.left l.letters))) l.entries;
}

abbrev pub decreases-loop-left : goal.decreases-loop-left
decreases-loop-left l = l.left
