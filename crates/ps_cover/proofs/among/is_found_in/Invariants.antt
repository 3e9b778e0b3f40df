use Rattle.std.proofs.Common.{◌≡◌, ◌≤◌, drop, length}
use Rattle.ps_cover.specs.inner.Parts.{is_sublist}
use Rattle.ps_cover.proofs.among.is_found_in.Given as goal

-- what is left of both says whether the one is part of the other
abbrev pub invariant-loop-number : goal.invariant-loop-number
invariant-loop-number l = record {
  left : is_sublist (drop l.done l.small) (drop l.number-index l.large) ≡ is_sublist l.small l.large;
  within : l.done ≤ length l.small;
}
