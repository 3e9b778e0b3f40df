use Rattle.std.proofs.Common.{◌++◌, ◌∷◌, [], refl, ap, ◌∙◌, List}
use Rattle.ps_command.specs.declared.symbolic_form.SymbolicForm.{SymbolicForm}
use Rattle.ps_interp.specs.Entries.{false_triple}
use Rattle.ps_interp.specs.Weights.{zeros}
use Rattle.ps_term.specs.declared.row.Row.{Row}
use Rattle.ps_triple.specs.Entries.{false_atom}
use Rattle.ps_triple.proofs.Alike.{same_but_multipliers}
use Rattle.ps_interp.proofs.Threefold.{one_item}
use Rattle.ps_interp.proofs.tripling.false_triple.Goals as goal

pub returns : goal.returns
returns c =
    same_but_multipliers _ (false_triple c.args.setting.now c.args.command)
    (c.from_list.ensures ∙ one_item c.in_ok-pre.pre.items c.push.new.self.items c.false_atom.result false_atom c.in_ok-pre.ensures.items c.in_ok-push.ensures.items c.false_atom.ensures, refl, c.false_atom-2.ensures)
    (c.from_list-2.ensures ∙ (c.in_ok-lambda.ensures ∙ ap (λ (rs : List Row). 1 ∷ (zeros rs ++ 0 ∷ [])) (c.as_slice.ensures ∙ ap (λ (f : SymbolicForm). f.rows) c.form_of.ensures.form)))
