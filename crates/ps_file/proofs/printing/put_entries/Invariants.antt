use Rattle.std.proofs.Common.{◌≡◌, ◌++◌, drop}
use Rattle.std.specs.Prelude.{codes}
use Rattle.std.specs.List.{flat_map}
use Rattle.ps_atom_text.specs.Spelling.{entry_line}
use Rattle.ps_file.specs.Spelling.{listed}
use Rattle.ps_file.proofs.printing.put_entries.Given as goal
use Rattle.ps_lines.specs.Tokens.{line_bytes, text_bytes}

abbrev pub invariant-loop-entry : goal.invariant-loop-entry
invariant-loop-entry l = l.out.items ++ flat_map (λ x. line_bytes (entry_line x)) (drop l.entry-index l.entries) ≡ l.fn.out.items ++ text_bytes (listed (codes "entries") entry_line l.entries)
