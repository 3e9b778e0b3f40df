use Rattle.std.proofs.Common.{◌≡◌, ◌≤◌, drop, length}
use Rattle.ps_elim.specs.inner.Lexicographic.{comes_before}
use Rattle.ps_elim.proofs.lexicographic.comes_before.Given as goal

abbrev pub invariant-loop-at : goal.invariant-loop-at
invariant-loop-at l = record {
  rest : comes_before (drop l.at l.pairs) (drop l.at l.others) ≡ comes_before l.pairs l.others;
  within : l.at ≤ length l.others;
}
