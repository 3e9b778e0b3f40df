use Rattle.std.proofs.Common.{◌≡◌, drop}
use Rattle.ps_lines.specs.Tokens.{has_newline, line_parts}
use Rattle.ps_lines.proofs.reader.has_line_feed.Given as goal

abbrev pub invariant-loop-byte : goal.invariant-loop-byte
invariant-loop-byte l = has_newline (line_parts (drop l.byte-index l.bytes)) ≡ has_newline (line_parts l.bytes)
