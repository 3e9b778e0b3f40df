-- The setting that is made of a program's commands.
use Rattle.std.specs.Prelude.{◌≡◌, true, not, List, filter, length}
use Rattle.std.specs.List.{AllByRecursion, list_all}
use Rattle.ps_command.specs.Named.{is_declared_op, names_local}
use Rattle.ps_command.specs.declared.command.Command.{Command}
use Rattle.ps_command.specs.declared.setting.Setting.{Setting}
use Rattle.ps_compile.specs.Compiled.{start_rows}
use Rattle.ps_term.specs.declared.row.Row.{Row}
use Rattle.ps_tree.specs.declared.program.Program.{Program}

-- the commands name variables alone that the program declares
abbrev pub AreDeclaredIn : Program → List Command → Type 0
AreDeclaredIn p commands =
    AllByRecursion (λ (c : Command). list_all (is_declared_op (length p.globals) (length p.locals)) c.ops ≡ true) commands

-- the setting has these commands, the program's variables and its rows
pub record IsSettingOf (p : Program) (given : List Command) (s : Setting) : Type 0 where
  pub commands : s.commands ≡ given
  pub globals : s.globals ≡ length p.globals
  pub locals : s.locals ≡ length p.locals
  pub init_once : s.init_once ≡ filter (λ (r : Row). not (names_local r)) (start_rows p)
  pub init_each : s.init_each ≡ filter names_local (start_rows p)
