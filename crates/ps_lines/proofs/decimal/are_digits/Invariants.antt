use Rattle.std.proofs.Common.{◌≡◌, drop}
use Rattle.ps_lines.specs.Decimal.{are_digits}
use Rattle.ps_lines.proofs.decimal.are_digits.Given as goal

abbrev pub invariant-loop-byte : goal.invariant-loop-byte
invariant-loop-byte l = are_digits (drop l.byte-index l.bytes) ≡ are_digits l.bytes
