-- The sums at the cuts of a trace of pairs of a thread and a command: what the multipliers make of the rows of the letters after
-- a cut, over the values at the cut.
use Rattle.std.specs.Prelude.{◌≡◌, ◌⊎◌, ℕ, ◌+◌, ◌<◌, ◌^◌, pos, List, [], ◌∷◌, length, map, take, drop}
use Rattle.ps_command.specs.declared.setting.Setting.{Setting}
use Rattle.ps_command.specs.declared.symbolic_form.SymbolicForm.{SymbolicForm}
use Rattle.ps_term.specs.Exact.{number_term, plus_scaled, substituted}
use Rattle.ps_term.specs.Substitution.{SubstitutionFits}
use Rattle.ps_term.specs.Sums.{TermFits}
use Rattle.ps_term.specs.declared.row.Row.{Row}
use Rattle.ps_term.specs.declared.term.Term.{Term}
use Rattle.ps_term.specs.declared.var.Var.{Var}
use Rattle.ps_trace.specs.Rows.{of_thread, row_of_thread, term_of_thread}
use Rattle.ps_triple.specs.Rows.{form_in}

-- the rows of a command's form, where a thread runs it; its havocs are counted from 0
abbrev pub rows_by : ℕ → SymbolicForm → List Row
rows_by k form = map (row_of_thread k 0) form.rows

-- the terms that variables are worth after it
abbrev pub terms_by : ℕ → SymbolicForm → List (Var × Term)
terms_by k form = map (λ (p : Var × Term). let q : Var × Term = (of_thread k 0 p.0, term_of_thread k 0 p.1) in q) form.after

-- so many times each row added to a term
abbrev pub plus_rows : Term → List Row → List ℕ → Term
plus_rows t (r ∷ rs) (n ∷ ns) = plus_rows (plus_scaled t (pos n) r.term) rs ns
plus_rows t [] ns = t
plus_rows t (r ∷ rs) [] = t

-- the weighted rows of a letter
abbrev pub letter_sum : ℕ → SymbolicForm → List ℕ → Term
letter_sum k form weights = plus_rows (number_term (pos 0)) (rows_by k form) weights

-- the sum before a letter: its weighted rows, and the sum after it as one on the values before its command
abbrev pub sum_before : ℕ → SymbolicForm → List ℕ → Term → Term
sum_before k form weights next =
    plus_scaled (letter_sum k form weights) (pos 1) (substituted (terms_by k form) next)

-- A letter with the multipliers of its command's rows, and the sums at the cuts before and after it.
pub record Weighed : Type 0 where
  pub thread : ℕ
  pub command : ℕ
  pub weights : List ℕ
  pub before : Term
  pub after : Term

-- the sum at the first of the cuts; at the last cut of a trace it is 0
abbrev pub first_sum : List Weighed → Term
first_sum [] = number_term (pos 0)
first_sum (w ∷ ws) = w.before

-- a letter before others
abbrev pub weigh : Setting → ℕ × ℕ → List ℕ → List Weighed → Weighed
weigh setting l weights later = record {
  thread = l.0;
  command = l.1;
  weights = weights;
  before = sum_before l.0 (form_in setting l.1) weights (first_sum later);
  after = first_sum later;
}

-- how many rows a letter's command has
abbrev pub row_count : Setting → ℕ × ℕ → ℕ
row_count setting l = length (form_in setting l.1).rows

-- how many rows the letters of a trace have
abbrev pub row_total : Setting → List (ℕ × ℕ) → ℕ
row_total setting [] = 0
row_total setting (l ∷ ls) = row_count setting l + row_total setting ls

-- the letters of a trace, with the multipliers of their rows one after another
abbrev pub weighed : Setting → List (ℕ × ℕ) → List ℕ → List Weighed
weighed setting [] ws = []
weighed setting (l ∷ ls) ws =
    weigh setting l (take (row_count setting l) ws) (weighed setting ls (drop (row_count setting l) ws))
    ∷ weighed setting ls (drop (row_count setting l) ws)

-- the product of a multiplier and a term, and its sum with another term, fit; a multiplier above the greatest number of 128 bits
-- with a sign has no product but with 0
abbrev pub WeightedFits : Term → ℕ → Term → Type 0
WeightedFits t n r = ((n < 2 ^ 127) ⊎ (r ≡ number_term (pos 0))) × TermFits t (pos n) r

-- each product and partial sum fits, where so many times each row is added to a term
abbrev pub PlusRowsFit : Term → List Row → List ℕ → Type 0
PlusRowsFit t (r ∷ rs) (n ∷ ns) = WeightedFits t n r.term × PlusRowsFit (plus_scaled t (pos n) r.term) rs ns
PlusRowsFit t [] ns = Unit {0}
PlusRowsFit t (r ∷ rs) [] = Unit {0}

-- those of a letter's sum fit: its rows are added to 0, the sum after it is put after the command, and this is added
abbrev pub SumFits : Setting → Weighed → Type 0
SumFits setting w =
    PlusRowsFit (number_term (pos 0)) (rows_by w.thread (form_in setting w.command)) w.weights
    × SubstitutionFits (terms_by w.thread (form_in setting w.command)) w.after
    × TermFits (letter_sum w.thread (form_in setting w.command) w.weights) (pos 1)
    (substituted (terms_by w.thread (form_in setting w.command)) w.after)
