use Rattle.std.proofs.Common.{◌≡◌, ◌++◌, ◌∙◌, ℕ, ap, rules}
use Rattle.std.specs.Prelude.{codes, decimal}
use Rattle.std.proofs.lemmas.Result.{IfOk-equal}
use Rattle.ps_atom_text.specs.Spelling.{atom_text}
use Rattle.ps_lines.specs.Tokens.{after_blank}
use Rattle.ps_atom_text.proofs.Printed.{triple_put}
use Rattle.ps_atom_text.proofs.printing.put_triple.Goals as goal

pub returns : goal.returns
returns c =
    let same : c.from.result ≡ c.args.triple.now.command = search rules in
    IfOk-equal c.put_end.result _ _ _ c.put_end.ensures
    (triple_put c.args.out.now.items (codes "triple") c.put_word.new.out.items c.put_natural.new.out.items c.put_field.new.out.items c.put_atom.new.out.items c.put_field-2.new.out.items c.put_atoms.new.out.items c.put_lambda.new.out.items
    (decimal c.args.triple.now.command) (codes "post") (atom_text c.args.triple.now.post) (codes "pre") c.as_slice.result.now c.args.triple.now.pre c.as_slice-2.result.now c.args.triple.now.lambda
    c.in_ok-put_word.ensures (c.in_ok-put_natural.ensures ∙ ap (λ (n : ℕ). c.put_word.new.out.items ++ after_blank (decimal n)) same) c.in_ok-put_field.ensures c.in_ok-put_atom.ensures c.in_ok-put_field-2.ensures c.in_ok-put_atoms.ensures c.as_slice.ensures c.in_ok-put_lambda.ensures c.as_slice-2.ensures)
