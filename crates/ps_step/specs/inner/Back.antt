-- The configurations that a step back leads to, as they are made.
use Rattle.std.specs.Prelude.{ℕ, not, ◌==◌, List, ◌∷◌}
use Rattle.std.specs.List.{filter}

-- the mover at the source, and the others where they were
abbrev pub moved_at : List (ℕ × ℕ) → ℕ → ℕ → List (ℕ × ℕ)
moved_at at mover source = (mover, source) ∷ filter (λ (p : ℕ × ℕ). not (p.0 == mover)) at
