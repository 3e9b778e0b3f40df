-- The form that a builder has so far.
use Rattle.ps_command.specs.declared.form_builder.FormBuilder.{FormBuilder}
use Rattle.ps_command.specs.declared.symbolic_form.SymbolicForm.{SymbolicForm}

abbrev pub form_so_far : FormBuilder → SymbolicForm
form_so_far b = record { rows = b.rows.items; after = b.after; havocs = b.havocs }
