use Rattle.std.proofs.Common.{◌≡◌, ◌^◌, drop}
use Rattle.ps_lines.specs.inner.Digits.{value_from}
use Rattle.ps_lines.proofs.decimal.value64.Given as goal

abbrev pub invariant-loop-byte : goal.invariant-loop-byte
invariant-loop-byte l = value_from (2 ^ 64) l.value (drop l.byte-index l.bytes) ≡ value_from (2 ^ 64) 0 l.bytes
