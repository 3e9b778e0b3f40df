use Rattle.std.proofs.Common.{◌≡◌, ◌++◌, drop}
use Rattle.std.specs.Prelude.{codes}
use Rattle.std.specs.List.{flat_map}
use Rattle.ps_atom_text.specs.Spelling.{config_line}
use Rattle.ps_file.specs.Spelling.{listed}
use Rattle.ps_file.proofs.printing.put_configs.Given as goal
use Rattle.ps_lines.specs.Tokens.{line_bytes, text_bytes}

abbrev pub invariant-loop-config : goal.invariant-loop-config
invariant-loop-config l = l.out.items ++ flat_map (λ x. line_bytes (config_line x)) (drop l.config-index l.configs) ≡ l.fn.out.items ++ text_bytes (listed (codes "configs") config_line l.configs)
