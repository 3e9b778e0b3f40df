-- Commands by number, and their symbolic forms.
use Rattle.std.specs.Prelude.{ℕ, List, [], map, slice_get, option_map, unwrap_or}
use Rattle.ps_command.specs.Form.{form_of}
use Rattle.ps_command.specs.declared.command.Command.{Command}
use Rattle.ps_command.specs.declared.op.Op.{Op}
use Rattle.ps_command.specs.declared.symbolic_form.SymbolicForm.{SymbolicForm}

-- the ops of the command of a number
abbrev pub ops_of : List Command → ℕ → List Op
ops_of commands n = unwrap_or (option_map (λ (c : Command). c.ops) (slice_get commands n)) []

-- the forms of commands, place by place
abbrev pub forms_of : List Command → List SymbolicForm
forms_of commands = map (λ (c : Command). form_of c.ops) commands
