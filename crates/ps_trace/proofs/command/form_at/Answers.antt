use Rattle.std.proofs.Common.{◌≡◌, true, sym, subst}
use Rattle.ps_command.specs.declared.symbolic_form.SymbolicForm.{SymbolicForm}
use Rattle.ps_trace.proofs.Owning.{form_got, own_form_at}
use Rattle.ps_trace.specs.Own.{is_own_form}
use Rattle.ps_trace.proofs.command.form_at.Goals as goal

pub returns-clause-form : goal.returns-clause-form
returns-clause-form c =
    form_got c.args.graph.now c.as_slice.result.now c.args.edge c.command_of.result c.index-as_slice-command_of.result c.as_slice.ensures c.command_of.ensures.command c.command_of.ensures.there c.index-as_slice-command_of.is

pub returns-clause-own : goal.returns-clause-own
returns-clause-own c =
    subst (λ (form : SymbolicForm). is_own_form form ≡ true)
    (sym (form_got c.args.graph.now c.as_slice.result.now c.args.edge c.command_of.result c.index-as_slice-command_of.result c.as_slice.ensures c.command_of.ensures.command c.command_of.ensures.there c.index-as_slice-command_of.is))
    (own_form_at c.args.graph.now c.args.edge)
