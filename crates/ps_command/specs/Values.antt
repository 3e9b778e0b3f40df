-- The values of variables in a state: those that one thread sees, of the globals and of its own locals, and those of
-- the whole state. They have no bound.
use Rattle.std.specs.Prelude.{ℕ, ℤ, pos, List, [], slice_index_or, slice_set}
use Rattle.ps_command.specs.declared.state.State.{State}
use Rattle.ps_term.specs.declared.var.Var.{Var}
use Rattle.ps_term.specs.declared.var.Var.TheVariants.{Global, Local, Havoc}

-- one value for each global and for each local of one thread
pub record Values : Type 0 where
  pub globals : List ℤ
  pub locals : List ℤ

-- the value of a variable; a local is one of this thread
abbrev pub value_at : Values → Var → ℤ
value_at v (Global n) = slice_index_or v.globals n (pos 0)
value_at v (Local _ n) = slice_index_or v.locals n (pos 0)
value_at v (Havoc _) = pos 0

-- the values after the variable is set
abbrev pub with_value : Values → Var → ℤ → Values
with_value v (Global n) z = record v { globals = slice_set v.globals n z }
with_value v (Local _ n) z = record v { locals = slice_set v.locals n z }
with_value v (Havoc _) z = v

-- the values that a thread of a state sees
abbrev pub values_of : ℕ → State → Values
values_of k s = record { globals = s.globals; locals = slice_index_or s.locals k [] }

-- the state in which a thread sees these values, and the others their own locals as before
abbrev pub with_values : ℕ → State → Values → State
with_values k s v = record { globals = v.globals; locals = slice_set s.locals k v.locals }

-- the value of a variable in a whole state, a local being one of its own thread; what isn't there is worth 0
abbrev pub value_in : State → Var → ℤ
value_in s (Global n) = slice_index_or s.globals n (pos 0)
value_in s (Local t n) = slice_index_or (slice_index_or s.locals t []) n (pos 0)
value_in s (Havoc _) = pos 0
