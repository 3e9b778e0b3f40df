use Rattle.std.proofs.Common.{◌≡◌, ◌+◌, drop}
use Rattle.ps_lines.specs.inner.Ahead.{field_len}
use Rattle.ps_lines.proofs.reader.field_len.Given as goal

abbrev pub invariant-loop-i : goal.invariant-loop-i
invariant-loop-i l = l.i + field_len (drop l.i l.bytes) ≡ field_len l.bytes
