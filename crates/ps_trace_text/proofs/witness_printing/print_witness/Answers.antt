use Rattle.std.proofs.Common.{◌++◌, ◌∷◌, [], List, ℕ, ℤ, ap, ◌∙◌, length}
use Rattle.std.specs.Prelude.{codes, decimal}
use Rattle.std.specs.List.{flat_map}
use Rattle.ps_lines.specs.Tokens.{line_bytes}
use Rattle.ps_trace.specs.declared.step.Step.{Step}
use Rattle.ps_trace_text.specs.WitnessSpelling.{globals_line, locals_lines, step_line}
use Rattle.ps_trace_text.proofs.WitnessPrinted.{printed_text}
use Rattle.ps_trace_text.proofs.witness_printing.print_witness.Goals as goal

pub returns : goal.returns
returns c =
    printed_text (codes "witness", codes "1" ∷ []) (codes "threads", decimal (length c.args.witness.now.locals) ∷ []) (globals_line c.args.witness.now.globals) (codes "end", []) c.args.witness.now.locals c.args.witness.now.steps
    c.put_version.new.out.items c.put_header.new.out.items c.put_globals.new.out.items c.put_all_locals.new.out.items c.put_steps.new.out.items c.put_only.new.out.items
    (c.in_ok-put_version.ensures ∙ ap (λ (o : List ℕ). o ++ line_bytes (codes "witness", codes "1" ∷ [])) c.new-out.ensures.items)
    (c.in_ok-put_header.ensures ∙ ap (λ (xs : List (List ℤ)). c.put_version.new.out.items ++ line_bytes (codes "threads", decimal (length xs) ∷ [])) c.as_slice-all.ensures)
    (c.in_ok-put_globals.ensures ∙ ap (λ (vs : List ℤ). c.put_header.new.out.items ++ line_bytes (globals_line vs)) c.as_slice.ensures)
    (c.in_ok-put_all_locals.ensures ∙ ap (λ (xs : List (List ℤ)). c.put_globals.new.out.items ++ flat_map line_bytes (locals_lines 0 xs)) c.as_slice-all.ensures)
    c.in_ok-put_steps.ensures
    c.in_ok-put_only.ensures
