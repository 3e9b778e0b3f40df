-- Which variables the terms of a command name: globals, locals of thread 0, and so many havocs.
use Rattle.std.specs.Prelude.{ℕ, ℤ, Bool, true, ◌&&◌, ◌==◌, nat_lt}
use Rattle.std.specs.List.{list_all}
use Rattle.ps_command.specs.declared.symbolic_form.SymbolicForm.{SymbolicForm}
use Rattle.ps_term.specs.declared.row.Row.{Row}
use Rattle.ps_term.specs.declared.term.Term.{Term}
use Rattle.ps_term.specs.declared.var.Var.{Var}
use Rattle.ps_term.specs.declared.var.Var.TheVariants.{Global, Local, Havoc}

abbrev pub is_own : ℕ → Var → Bool
is_own havocs (Global n) = true
is_own havocs (Local t n) = t == 0
is_own havocs (Havoc i) = nat_lt i havocs

abbrev pub is_own_term : ℕ → Term → Bool
is_own_term havocs t = list_all (λ (p : Var × ℤ). is_own havocs p.0) t.pairs

abbrev pub is_own_row : ℕ → Row → Bool
is_own_row havocs r = is_own_term havocs r.term

-- a variable that isn't a havoc, with its term
abbrev pub is_own_worth : ℕ → Var × Term → Bool
is_own_worth havocs p = is_own 0 p.0 && is_own_term havocs p.1

abbrev pub is_own_form : SymbolicForm → Bool
is_own_form form = list_all (is_own_row form.havocs) form.rows && list_all (is_own_worth form.havocs) form.after
