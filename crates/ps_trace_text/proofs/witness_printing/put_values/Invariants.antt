use Rattle.std.proofs.Common.{◌≡◌, ◌++◌, drop}
use Rattle.std.specs.Fmt.{signed_decimal}
use Rattle.std.specs.List.{flat_map}
use Rattle.ps_lines.specs.Tokens.{after_blank}
use Rattle.ps_trace_text.proofs.witness_printing.put_values.Given as goal

abbrev pub invariant-loop-value : goal.invariant-loop-value
invariant-loop-value l =
    l.out.items ++ flat_map (λ n. after_blank (signed_decimal n)) (drop l.value-index l.values) ≡ l.fn.out.items ++ flat_map (λ n. after_blank (signed_decimal n)) l.values
