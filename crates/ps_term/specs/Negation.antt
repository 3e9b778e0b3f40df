-- When the negation of a row stays within 128 bits.
use Rattle.std.specs.Prelude.{pos, neg_ℤ, ◌-ℤ◌, FitsSigned, All}
use Rattle.std.specs.Int.{w128}
use Rattle.ps_term.specs.declared.row.Row.{Row}

-- -1 times each coefficient and the constant fits, and so does 1 with the latter added
abbrev pub NegationFits : Row → Type 0
NegationFits r =
    All (λ p. FitsSigned w128 (neg_ℤ p.1)) r.term.pairs × FitsSigned w128 (neg_ℤ r.term.constant) × FitsSigned w128 (pos 1 -ℤ r.term.constant)
