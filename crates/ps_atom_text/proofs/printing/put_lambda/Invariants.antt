use Rattle.std.proofs.Common.{◌≡◌, ◌++◌, drop}
use Rattle.std.specs.Prelude.{decimal}
use Rattle.std.specs.List.{flat_map}
use Rattle.ps_atom_text.specs.Spelling.{lambda_fields}
use Rattle.ps_atom_text.proofs.printing.put_lambda.Given as goal
use Rattle.ps_lines.specs.Tokens.{after_blank}

abbrev pub invariant-loop-n : goal.invariant-loop-n
invariant-loop-n l = l.out.items ++ flat_map (λ n. after_blank (decimal n)) (drop l.n-index l.lambda) ≡ l.fn.out.items ++ flat_map after_blank (lambda_fields l.lambda)
