use Rattle.std.proofs.Common.{◌≡◌, ◌++◌, drop}
use Rattle.std.specs.List.{flat_map}
use Rattle.ps_lines.specs.Tokens.{line_bytes}
use Rattle.ps_trace_text.specs.WitnessSpelling.{locals_lines}
use Rattle.ps_trace_text.proofs.witness_printing.put_all_locals.Given as goal

abbrev pub invariant-loop-thread : goal.invariant-loop-thread
invariant-loop-thread l =
    l.out.items ++ flat_map line_bytes (locals_lines l.thread (drop l.thread l.all)) ≡ l.fn.out.items ++ flat_map line_bytes (locals_lines 0 l.all)
