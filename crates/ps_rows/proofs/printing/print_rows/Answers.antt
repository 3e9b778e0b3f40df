use Rattle.std.proofs.Common.{◌++◌, ◌∷◌, [], List, ℕ, ap, ◌∙◌, length}
use Rattle.std.specs.Prelude.{codes, decimal}
use Rattle.std.specs.List.{flat_map}
use Rattle.ps_term.specs.declared.row.Row.{Row}
use Rattle.ps_lines.specs.Tokens.{line_bytes}
use Rattle.ps_rows.specs.Spelling.{multipliers_line, row_line}
use Rattle.ps_rows.proofs.Laws.{printed_text}
use Rattle.ps_rows.proofs.printing.print_rows.Goals as goal

pub returns : goal.returns
returns c =
    printed_text (codes "rows", decimal (length c.args.claim.now.rows) ∷ []) (multipliers_line c.args.claim.now.multipliers) (codes "end", []) c.args.claim.now.rows c.put_header.new.out.items c.put_rows.new.out.items c.put_multipliers.new.out.items c.put_only.new.out.items
    (c.in_ok-put_header.ensures ∙ ap (λ (o : List ℕ). o ++ line_bytes (codes "rows", decimal (length c.as_slice-rows.result.now) ∷ [])) c.new-out.ensures.items ∙ ap (λ (rows : List Row). line_bytes (codes "rows", decimal (length rows) ∷ [])) c.as_slice-rows.ensures)
    (c.in_ok-put_rows.ensures ∙ ap (λ (rows : List Row). c.put_header.new.out.items ++ flat_map (λ r. line_bytes (row_line r)) rows) c.as_slice-rows.ensures)
    (c.in_ok-put_multipliers.ensures ∙ ap (λ (ns : List ℕ). c.put_rows.new.out.items ++ line_bytes (multipliers_line ns)) c.as_slice.ensures)
    c.in_ok-put_only.ensures
