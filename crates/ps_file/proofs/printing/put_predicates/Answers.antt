use Rattle.std.proofs.Common.{refl, ◌++◌}
use Rattle.std.specs.Prelude.{codes}
use Rattle.std.specs.List.{flat_map}
use Rattle.ps_atom_text.specs.Spelling.{predicate_line}
use Rattle.ps_file.proofs.Printed.{printed_list}
use Rattle.ps_file.proofs.printing.put_predicates.Goals as goal
use Rattle.ps_lines.specs.Tokens.{line_bytes}

pub loop-predicate-init : goal.loop-predicate-init
loop-predicate-init c = printed_list (codes "preds") predicate_line c.args.predicates.now c.args.out.now.items c.put_count.new.out.items (c.put_count.new.out.items ++ flat_map (λ x. line_bytes (predicate_line x)) c.args.predicates.now) c.in_ok-put_count.ensures refl
