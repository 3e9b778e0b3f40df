-- Reading rows and multipliers, with the first fault.
use Rattle.std.specs.Prelude.{ℕ, List, Result, Ok, codes}
use Rattle.ps_lines.specs.declared.form_fault.FormFault.{FormFault}
use Rattle.ps_lines.specs.Reading.{Position, Read, leaf_at, natural, line_at, end_at, only_at, done_at, header_at, times_at}
use Rattle.ps_lines.specs.Steps.{◌>>=◌}
use Rattle.ps_term.specs.declared.row.Row.{Row}
use Rattle.ps_term_text.specs.Reading.{term_at}
use Rattle.ps_rows.specs.declared.claim.Claim.{Claim}
use Rattle.ps_rows.specs.declared.reading.TheConstants.{MOST_ROWS}

-- A line `row TERM`.
unfoldable pub row_at : Read Row
row_at at = do
  w ← line_at (codes "row") at
  term ← term_at w.1
  e ← end_at term.1
  Ok (record { term = term.0 }, e.1)

-- A line `by NUM NUM`, with so many decimals of 128 bits.
unfoldable pub multipliers_at : ℕ → Read (List ℕ)
multipliers_at count at = do
  w ← line_at (codes "by") at
  numbers ← times_at (leaf_at natural) count w.1
  e ← end_at numbers.1
  Ok (numbers.0, e.1)

-- The whole text: `rows N`, so many rows, so many multipliers, `end`, and nothing after it.
unfoldable pub claim_at : Position → Result Claim FormFault
claim_at at = do
  count ← header_at (codes "rows") MOST_ROWS at
  rows ← times_at row_at count.0 count.1
  multipliers ← multipliers_at count.0 rows.1
  e ← only_at (codes "end") multipliers.1
  d ← done_at e.1
  Ok (record { rows = rows.0; multipliers = multipliers.0 })
