use Rattle.std.proofs.Common.{◌≡◌, ◌++◌, drop}
use Rattle.std.specs.List.{flat_map}
use Rattle.ps_lines.specs.Tokens.{line_bytes}
use Rattle.ps_trace_text.specs.WitnessSpelling.{step_line}
use Rattle.ps_trace_text.proofs.witness_printing.put_steps.Given as goal

abbrev pub invariant-loop-n : goal.invariant-loop-n
invariant-loop-n l =
    l.out.items ++ flat_map (λ s. line_bytes (step_line s)) (drop l.n l.steps) ≡ l.fn.out.items ++ flat_map (λ s. line_bytes (step_line s)) l.steps
