use Rattle.std.proofs.Common.{◌≡◌, ◌++◌, drop}
use Rattle.std.specs.Prelude.{codes}
use Rattle.std.specs.List.{flat_map}
use Rattle.ps_atom_text.specs.Spelling.{predicate_line}
use Rattle.ps_file.specs.Spelling.{listed}
use Rattle.ps_file.proofs.printing.put_predicates.Given as goal
use Rattle.ps_lines.specs.Tokens.{line_bytes, text_bytes}

abbrev pub invariant-loop-predicate : goal.invariant-loop-predicate
invariant-loop-predicate l = l.out.items ++ flat_map (λ x. line_bytes (predicate_line x)) (drop l.predicate-index l.predicates) ≡ l.fn.out.items ++ text_bytes (listed (codes "preds") predicate_line l.predicates)
