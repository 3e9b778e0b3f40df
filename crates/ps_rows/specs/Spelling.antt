-- How rows and multipliers are spelled, and which ones are within the limits.
use Rattle.std.specs.Prelude.{◌≡◌, ℕ, ◌≤◌, ◌<◌, ◌^◌, List, [], ◌∷◌, ◌++◌, map, length, decimal, codes}
use Rattle.std.specs.List.{AllByRecursion}
use Rattle.ps_term.specs.declared.row.Row.{Row}
use Rattle.ps_term_text.specs.Spelling.{term_fields, TermHasSpelling}
use Rattle.ps_rows.specs.declared.claim.Claim.{Claim}
use Rattle.ps_rows.specs.declared.reading.TheConstants.{MOST_ROWS}

-- A line `row` with the term's fields.
abbrev pub row_line : Row → List ℕ × List (List ℕ)
row_line row = (codes "row", term_fields row.term)

-- The line `by` with the multipliers.
abbrev pub multipliers_line : List ℕ → List ℕ × List (List ℕ)
multipliers_line numbers = (codes "by", map decimal numbers)

-- `rows` and their number, a line for each row, the multipliers, and `end`.
abbrev pub claim_lines : Claim → List (List ℕ × List (List ℕ))
claim_lines claim =
    (codes "rows", decimal (length claim.rows) ∷ []) ∷ (map row_line claim.rows ++ (multipliers_line claim.multipliers ∷ ((codes "end", []) ∷ [])))

-- Which rows have a spelling.
abbrev pub RowHasSpelling : Row → Type 0
RowHasSpelling row = TermHasSpelling row.term

-- At most so many rows, each with a spelling, and as many multipliers of 128 bits.
pub record ClaimHasSpelling (claim : Claim) : Type 0 where
  pub few : length claim.rows ≤ MOST_ROWS
  pub rows : AllByRecursion RowHasSpelling claim.rows
  pub as_many : length claim.multipliers ≡ length claim.rows
  pub multipliers : AllByRecursion (λ n. n < 2 ^ 128) claim.multipliers
