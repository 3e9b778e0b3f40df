-- Which variables rows and commands name, among so many globals and so many locals of the thread that moves.
use Rattle.std.specs.Prelude.{ℕ, ℤ, Bool, true, false, ◌&&◌, ◌==◌, nat_lt}
use Rattle.std.specs.List.{list_all, list_any}
use Rattle.ps_command.specs.declared.command.Command.{Command}
use Rattle.ps_command.specs.declared.op.Op.{Op}
use Rattle.ps_command.specs.declared.op.Op.TheVariants.{Assume, Assign, Havoc as HavocOp}
use Rattle.ps_term.specs.declared.row.Row.{Row}
use Rattle.ps_term.specs.declared.term.Term.{Term}
use Rattle.ps_term.specs.declared.var.Var.{Var}
use Rattle.ps_term.specs.declared.var.Var.TheVariants.{Global, Local, Havoc}

-- the variable is one of the globals, or one of the locals of thread 0
abbrev pub is_declared : ℕ → ℕ → Var → Bool
is_declared globals locals (Global n) = nat_lt n globals
is_declared globals locals (Local t n) = t == 0 && nat_lt n locals
is_declared globals locals (Havoc _) = false

-- every variable of the term is declared
abbrev pub is_declared_term : ℕ → ℕ → Term → Bool
is_declared_term globals locals t = list_all (λ (p : Var × ℤ). is_declared globals locals p.0) t.pairs

-- every variable of the row is declared
abbrev pub is_declared_row : ℕ → ℕ → Row → Bool
is_declared_row globals locals r = is_declared_term globals locals r.term

-- every variable of the op is declared
abbrev pub is_declared_op : ℕ → ℕ → Op → Bool
is_declared_op globals locals (Assume r) = is_declared_row globals locals r
is_declared_op globals locals (Assign x t) = is_declared globals locals x && is_declared_term globals locals t
is_declared_op globals locals (HavocOp x) = is_declared globals locals x

-- every variable of the command is declared
abbrev pub is_declared_command : ℕ → ℕ → Command → Bool
is_declared_command globals locals c = list_all (is_declared_op globals locals) c.ops

-- the variable is a local
abbrev pub is_local : Var → Bool
is_local (Local _ _) = true
is_local _ = false

-- the row names a local
abbrev pub names_local : Row → Bool
names_local r = list_any (λ (p : Var × ℤ). is_local p.0) r.term.pairs
