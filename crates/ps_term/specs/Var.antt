-- The order of variables: the globals, then the locals, then the havocs, and in each kind by number.
use Rattle.std.specs.Prelude.{Bool, true, false, ◌&&◌, ◌||◌, ◌==◌, nat_lt}
use Rattle.ps_term.specs.declared.var.Var.{Var}
use Rattle.ps_term.specs.declared.var.Var.TheVariants.{Global, Local, Havoc}

-- the first variable comes before the second
abbrev pub var_lt : Var → Var → Bool
var_lt (Global m) (Global n) = nat_lt m n
var_lt (Global _) (Local _ _) = true
var_lt (Global _) (Havoc _) = true
var_lt (Local _ _) (Global _) = false
var_lt (Local s m) (Local t n) = nat_lt s t || (s == t && nat_lt m n)
var_lt (Local _ _) (Havoc _) = true
var_lt (Havoc _) (Global _) = false
var_lt (Havoc _) (Local _ _) = false
var_lt (Havoc m) (Havoc n) = nat_lt m n

-- the two are one variable
abbrev pub var_eq : Var → Var → Bool
var_eq (Global m) (Global n) = m == n
var_eq (Local s m) (Local t n) = s == t && m == n
var_eq (Havoc m) (Havoc n) = m == n
var_eq _ _ = false
