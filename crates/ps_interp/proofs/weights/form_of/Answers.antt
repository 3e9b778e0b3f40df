use Rattle.std.proofs.Common.{◌≡◌, true, ap, sym, subst, ◌∙◌, get_or, List}
use Rattle.ps_command.specs.Form.{empty_form}
use Rattle.ps_command.specs.declared.symbolic_form.SymbolicForm.{SymbolicForm}
use Rattle.ps_trace.specs.Own.{is_own_form}
use Rattle.ps_triple.proofs.Membership.{any_default}
use Rattle.ps_interp.proofs.Numbered.{own_form_in}
use Rattle.ps_interp.proofs.weights.form_of.Goals as goal

pub returns-clause-own : goal.returns-clause-own
returns-clause-own c =
    let forms : List SymbolicForm = c.args.setting.now.symbols in
    let is : c.index-as_slice-command.result ≡ get_or forms c.args.command c.index-as_slice-command.result = c.index-as_slice-command.is ∙ ap (λ (fs : List SymbolicForm). get_or fs c.args.command c.index-as_slice-command.result) c.as_slice.ensures in
    subst (λ (form : SymbolicForm). is_own_form form ≡ true) (sym (is ∙ any_default forms c.args.command c.index-as_slice-command.result empty_form c.requires)) (own_form_in c.args.setting.now c.args.command)
