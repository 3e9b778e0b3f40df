use Rattle.std.proofs.Common.{◌++◌, ◌∷◌, [], List, ℕ, ap, ◌∙◌, length}
use Rattle.std.specs.Prelude.{codes, decimal}
use Rattle.std.specs.List.{flat_map}
use Rattle.ps_trace.specs.declared.trace.Letter.{Letter}
use Rattle.ps_lines.specs.Tokens.{line_bytes}
use Rattle.ps_trace_text.specs.TraceSpelling.{letter_line}
use Rattle.ps_trace_text.proofs.TraceLaws.{printed_text}
use Rattle.ps_trace_text.proofs.trace_printing.print_trace.Goals as goal

pub returns : goal.returns
returns c =
    printed_text (codes "trace", decimal (length c.args.trace.now.letters) ∷ []) (codes "end", []) c.args.trace.now.letters c.put_header.new.out.items c.put_letters.new.out.items c.put_only.new.out.items
    (c.in_ok-put_header.ensures ∙ ap (λ (o : List ℕ). o ++ line_bytes (codes "trace", decimal (length c.as_slice-letters.result.now) ∷ [])) c.new-out.ensures.items ∙ ap (λ (ls : List Letter). line_bytes (codes "trace", decimal (length ls) ∷ [])) c.as_slice-letters.ensures)
    (c.in_ok-put_letters.ensures ∙ ap (λ (ls : List Letter). c.put_header.new.out.items ++ flat_map (λ l. line_bytes (letter_line l)) ls) c.as_slice-letters.ensures)
    c.in_ok-put_only.ensures
