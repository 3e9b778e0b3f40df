-- Factors of the coefficients of pairs.
use Rattle.std.specs.Prelude.{◌≡◌, ℕ, ℤ, pos, ◌*ℤ◌, List, All, unsigned_abs}
use Rattle.std.specs.Int.{◌∣◌}
use Rattle.std.specs.List.{AllZip}
use Rattle.ps_term.specs.declared.var.Var.{Var}

-- the number divides each coefficient
abbrev pub DividesAll : ℕ → List (Var × ℤ) → Type 0
DividesAll d ps = All (λ p. d ∣ unsigned_abs p.1) ps

-- the same variables in the same order, with the factor taken out of the coefficients
abbrev pub AreDivided : ℕ → List (Var × ℤ) → List (Var × ℤ) → Type 0
AreDivided factor = AllZip (λ p q. (q.0 ≡ p.0) × (p.1 ≡ (pos factor *ℤ q.1)))
