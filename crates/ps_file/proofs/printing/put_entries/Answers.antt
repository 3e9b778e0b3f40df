use Rattle.std.proofs.Common.{refl, ◌++◌}
use Rattle.std.specs.Prelude.{codes}
use Rattle.std.specs.List.{flat_map}
use Rattle.ps_atom_text.specs.Spelling.{entry_line}
use Rattle.ps_file.proofs.Printed.{printed_list}
use Rattle.ps_file.proofs.printing.put_entries.Goals as goal
use Rattle.ps_lines.specs.Tokens.{line_bytes}

pub loop-entry-init : goal.loop-entry-init
loop-entry-init c = printed_list (codes "entries") entry_line c.args.entries.now c.args.out.now.items c.put_count.new.out.items (c.put_count.new.out.items ++ flat_map (λ x. line_bytes (entry_line x)) c.args.entries.now) c.in_ok-put_count.ensures refl
