use Rattle.std.proofs.Common.{◌≡◌, ◌+◌, drop}
use Rattle.ps_token.specs.inner.Scanning.{gap_from, gap_len}
use Rattle.ps_token.proofs.scanning.gap_len.Given as goal

abbrev pub invariant-loop-i : goal.invariant-loop-i
invariant-loop-i l = l.i + gap_from l.in_comment (drop l.i l.bytes) ≡ gap_len l.bytes
