use Rattle.std.proofs.Common.{◌≡◌, ◌++◌, drop}
use Rattle.std.specs.List.{flat_map}
use Rattle.ps_lines.specs.Tokens.{line_bytes}
use Rattle.ps_trace_text.specs.TraceSpelling.{letter_line}
use Rattle.ps_trace_text.proofs.trace_printing.put_letters.Given as goal

abbrev pub invariant-loop-letter : goal.invariant-loop-letter
invariant-loop-letter l =
    l.out.items ++ flat_map (λ m. line_bytes (letter_line m)) (drop l.letter-index l.letters) ≡ l.fn.out.items ++ flat_map (λ m. line_bytes (letter_line m)) l.letters
