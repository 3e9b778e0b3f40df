use Rattle.std.proofs.Common.{◌≡◌, map, take}
use Rattle.ps_command.specs.Form.{form_of}
use Rattle.ps_command.specs.declared.command.Command.{Command}
use Rattle.ps_compile.proofs.setting.symbols_of.Given as goal

abbrev pub invariant-loop-command : goal.invariant-loop-command
invariant-loop-command l = l.symbols.items ≡ map (λ (c : Command). form_of c.ops) (take l.command-index l.commands)
