use Rattle.std.proofs.Common.{◌≡◌, ◌+◌}
use Rattle.ps_token.specs.Lexing.{place_of}
use Rattle.ps_token.proofs.tokenizing.place_at.Given as goal

abbrev pub invariant-loop-byte : goal.invariant-loop-byte
invariant-loop-byte l = l.moved ≡ place_of l.bytes (l.from + l.byte-index)
