-- A vector of multipliers as a sum of rows: the variable `Global(n)` stands for row n, and its coefficient is the entry.
use Rattle.std.specs.Prelude.{◌≡◌, ◌≢◌, ◌≤◌, ◌<◌, ◌^◌, ◌≤ℤ◌, ℕ, pos, List, map, unsigned_abs}
use Rattle.std.specs.List.{range_with_len}
use Rattle.ps_term.specs.Pairs.{coefficient}
use Rattle.ps_term.specs.declared.term.Term.{Term}
use Rattle.ps_term.specs.declared.var.Var.{Var}
use Rattle.ps_term.specs.declared.var.Var.TheVariants.{Global, Local, Havoc}

-- the entry at a place
abbrev pub entry_at : Term → ℕ → ℕ
entry_at t k = unsigned_abs (coefficient (Global k) t.pairs)

-- the entries at so many places
abbrev pub entries_of : Term → ℕ → List ℕ
entries_of t n = map (entry_at t) (range_with_len 0 n)

-- the variable stands for one of so many rows
abbrev pub IsPlace : Var → ℕ → Type 0
IsPlace (Global k) n = k < n
IsPlace (Local _ _) n = ⊥
IsPlace (Havoc _) n = ⊥

-- the sum is of so many rows alone, each with a positive multiplier
pub record AreEntries (t : Term) (n : ℕ) : Type 0 where
  pub few : n ≤ 2 ^ 32
  pub constant : t.constant ≡ pos 0
  pub positive : (x : Var) → pos 0 ≤ℤ coefficient x t.pairs
  pub within : (x : Var) → coefficient x t.pairs ≢ pos 0 → IsPlace x n
