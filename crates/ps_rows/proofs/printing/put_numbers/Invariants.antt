use Rattle.std.proofs.Common.{◌≡◌, ◌++◌, drop}
use Rattle.std.specs.Prelude.{decimal}
use Rattle.std.specs.List.{flat_map}
use Rattle.ps_lines.specs.Tokens.{after_blank}
use Rattle.ps_rows.proofs.printing.put_numbers.Given as goal

abbrev pub invariant-loop-n : goal.invariant-loop-n
invariant-loop-n l = l.out.items ++ flat_map (λ n. after_blank (decimal n)) (drop l.n-index l.numbers) ≡ l.fn.out.items ++ flat_map (λ n. after_blank (decimal n)) l.numbers
