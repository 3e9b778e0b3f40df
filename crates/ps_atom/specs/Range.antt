-- Which predicates are in range.
use Rattle.std.specs.Prelude.{ℕ, ◌<◌, ◌≤◌, All}
use Rattle.ps_term.specs.declared.var.Var.{Var}
use Rattle.ps_term.specs.declared.var.Var.TheVariants.{Global, Local, Havoc}
use Rattle.ps_atom.specs.declared.predicate.Predicate.{Predicate}
use Rattle.ps_atom.specs.declared.predicate.TheConstants.Predicate.{MOST_SLOTS}

-- the variable is a declared global, or a declared local of a slot below the arity
abbrev pub IsDeclared : ℕ → ℕ → ℕ → Var → Type 0
IsDeclared globals locals arity (Global n) = n < globals
IsDeclared globals locals arity (Local slot n) = (slot < arity) × (n < locals)
IsDeclared globals locals arity (Havoc _) = ⊥

-- among so many globals and locals, the arity is at most the greatest and each variable of the row is declared
abbrev pub IsInRange : ℕ → ℕ → Predicate → Type 0
IsInRange globals locals predicate =
    (predicate.arity ≤ MOST_SLOTS) × All (λ pair. IsDeclared globals locals predicate.arity pair.0) predicate.row.term.pairs

-- the variable is a declared global, or a declared local of any thread
abbrev pub IsKnown : ℕ → ℕ → Var → Type 0
IsKnown globals locals (Global n) = n < globals
IsKnown globals locals (Local _ n) = n < locals
IsKnown globals locals (Havoc _) = ⊥
