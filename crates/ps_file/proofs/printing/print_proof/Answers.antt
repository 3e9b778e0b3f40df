use Rattle.std.proofs.Common.{◌++◌, ◌∷◌, [], List, ℕ, ap, ◌∙◌}
use Rattle.std.specs.Prelude.{codes}
use Rattle.ps_atom.specs.declared.predicate.Predicate.{Predicate}
use Rattle.ps_atom_text.specs.Spelling.{config_line, entry_line, predicate_line}
use Rattle.ps_config.specs.Configurations.{Configuration}
use Rattle.ps_file.specs.Spelling.{listed}
use Rattle.ps_file.proofs.Printed.{printed_proof}
use Rattle.ps_file.proofs.printing.print_proof.Goals as goal
use Rattle.ps_lines.specs.Tokens.{line_bytes, text_bytes}
use Rattle.ps_triple.specs.declared.entry.Entry.{Entry}

pub returns : goal.returns
returns c =
    printed_proof (codes "proof", codes "1" ∷ []) (codes "end", []) (listed (codes "preds") predicate_line c.args.proof.now.predicates) (listed (codes "entries") entry_line c.args.proof.now.entries) (listed (codes "configs") config_line c.args.proof.now.configs)
    c.put_version.new.out.items c.put_predicates.new.out.items c.put_entries.new.out.items c.put_configs.new.out.items c.put_only.new.out.items
    (c.in_ok-put_version.ensures ∙ ap (λ (o : List ℕ). o ++ line_bytes (codes "proof", codes "1" ∷ [])) c.new-out.ensures.items)
    (c.in_ok-put_predicates.ensures ∙ ap (λ (xs : List Predicate). c.put_version.new.out.items ++ text_bytes (listed (codes "preds") predicate_line xs)) c.as_slice.ensures)
    (c.in_ok-put_entries.ensures ∙ ap (λ (xs : List Entry). c.put_predicates.new.out.items ++ text_bytes (listed (codes "entries") entry_line xs)) c.as_slice-2.ensures)
    (c.in_ok-put_configs.ensures ∙ ap (λ (xs : List Configuration). c.put_entries.new.out.items ++ text_bytes (listed (codes "configs") config_line xs)) c.as_slice-3.ensures)
    c.in_ok-put_only.ensures
