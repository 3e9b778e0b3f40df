-- Rows that differ in scale, or in the numbers of their threads.
use Rattle.std.specs.Prelude.{◌≡◌, ℕ, ◌≤◌, pos, ◌*ℤ◌}
use Rattle.ps_term.specs.Pairs.{coefficient}
use Rattle.ps_term.specs.declared.row.Row.{Row}
use Rattle.ps_term.specs.declared.var.Var.{Var}
use Rattle.ps_term.specs.declared.var.Var.TheVariants.{Global, Local, Havoc}
use Rattle.ps_atom.specs.Threads.{Occurs}

-- the new row is the old one with its threads renamed, those that occur staying apart
pub record IsRenaming (new_thread : ℕ → ℕ) (old new : Row) : Type 0 where
  pub apart : (s t : ℕ) → Occurs old.term.pairs s → Occurs old.term.pairs t → new_thread s ≡ new_thread t → s ≡ t
  pub locals : (t n : ℕ) → Occurs old.term.pairs t → coefficient (Local (new_thread t) n) new.term.pairs ≡ coefficient (Local t n) old.term.pairs
  pub only : (u : ℕ) → Occurs new.term.pairs u → (t : ℕ) × Occurs old.term.pairs t × (new_thread t ≡ u)
  pub globals : (n : ℕ) → coefficient (Global n) new.term.pairs ≡ coefficient (Global n) old.term.pairs
  pub havocs : (n : ℕ) → coefficient (Havoc n) new.term.pairs ≡ coefficient (Havoc n) old.term.pairs
  pub constant : new.term.constant ≡ old.term.constant

-- the new row is the old one, each number multiplied by a positive one
pub record IsMultiple (by : ℕ) (old new : Row) : Type 0 where
  pub positive : 1 ≤ by
  pub coefficients : (x : Var) → coefficient x new.term.pairs ≡ (pos by *ℤ coefficient x old.term.pairs)
  pub constant : new.term.constant ≡ (pos by *ℤ old.term.constant)
