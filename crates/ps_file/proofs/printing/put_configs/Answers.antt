use Rattle.std.proofs.Common.{refl, ◌++◌}
use Rattle.std.specs.Prelude.{codes}
use Rattle.std.specs.List.{flat_map}
use Rattle.ps_atom_text.specs.Spelling.{config_line}
use Rattle.ps_file.proofs.Printed.{printed_list}
use Rattle.ps_file.proofs.printing.put_configs.Goals as goal
use Rattle.ps_lines.specs.Tokens.{line_bytes}

pub loop-config-init : goal.loop-config-init
loop-config-init c = printed_list (codes "configs") config_line c.args.configs.now c.args.out.now.items c.put_count.new.out.items (c.put_count.new.out.items ++ flat_map (λ x. line_bytes (config_line x)) c.args.configs.now) c.in_ok-put_count.ensures refl
