-- The rows of a trace: what it asks of the values that it starts from, and of those that its havocs take.
use Rattle.std.specs.Prelude.{ℕ, ◌+◌, ℤ, List, [], ◌∷◌, ◌++◌, map, All}
use Rattle.std.specs.BTreeSet.{insert_key}
use Rattle.std.specs.Ordering.{nat_cmp}
use Rattle.ps_command.specs.Form.{form_of, with_term}
use Rattle.ps_command.specs.declared.setting.Setting.{Setting}
use Rattle.ps_command.specs.declared.symbolic_form.SymbolicForm.{SymbolicForm}
use Rattle.ps_graph.specs.ErrorTrace.{edge_ops}
use Rattle.ps_graph.specs.declared.graph.Graph.{Graph}
use Rattle.ps_term.specs.Exact.{substituted}
use Rattle.ps_term.specs.Substitution.{SubstitutionFits}
use Rattle.ps_term.specs.declared.row.Row.{Row}
use Rattle.ps_term.specs.declared.term.Term.{Term}
use Rattle.ps_term.specs.declared.var.Var.{Var}
use Rattle.ps_term.specs.declared.var.Var.TheVariants.{Global, Local, Havoc}

-- A variable of a command, where a thread runs it: a local is the thread's, and havocs are counted from this number on.
abbrev pub of_thread : ℕ → ℕ → Var → Var
of_thread k first (Global n) = Global n
of_thread k first (Local _ n) = Local k n
of_thread k first (Havoc i) = Havoc (first + i)

-- the same in pairs, in a term, and in a row
abbrev pub pairs_of_thread : ℕ → ℕ → List (Var × ℤ) → List (Var × ℤ)
pairs_of_thread k first ps = map (λ (p : Var × ℤ). let q : Var × ℤ = (of_thread k first p.0, p.1) in q) ps

abbrev pub term_of_thread : ℕ → ℕ → Term → Term
term_of_thread k first t = record { pairs = pairs_of_thread k first t.pairs; constant = t.constant }

abbrev pub row_of_thread : ℕ → ℕ → Row → Row
row_of_thread k first r = record { term = term_of_thread k first r.term }

-- the threads of letters, each put in its place among numbers that strictly ascend, unless it is there
abbrev pub threads_from : List ℕ → List (ℕ × ℕ) → List ℕ
threads_from ks [] = ks
threads_from ks (l ∷ ls) = threads_from (insert_key nat_cmp ks l.0) ls

-- the threads that occur, in ascending order
abbrev pub threads_in_trace : List (ℕ × ℕ) → List ℕ
threads_in_trace letters = threads_from [] letters

-- the rows of each of these threads
abbrev pub rows_of_each : List Row → List ℕ → List Row
rows_of_each rows [] = []
rows_of_each rows (k ∷ ks) = map (row_of_thread k 0) rows ++ rows_of_each rows ks

-- what is asked of the values that the trace starts from: the rows that hold once, and for each thread those that hold for each
abbrev pub rows_at_start : Setting → List ℕ → List Row
rows_at_start setting ks = setting.init_once ++ rows_of_each setting.init_each ks

-- What variables are worth after some letters, over the values before the trace and its havocs; and how many havocs came.
pub record SoFar : Type 0 where
  pub after : List (Var × Term)
  pub havocs : ℕ

-- a term of the next letter's command, over the values before the trace
abbrev pub put_after : SoFar → ℕ → Term → Term
put_after f k t = substituted f.after (term_of_thread k f.havocs t)

-- the rows that the next letter asks, the command being of this form
abbrev pub letter_rows : SoFar → ℕ → SymbolicForm → List Row
letter_rows f k form = map (λ (r : Row). record { term = put_after f k r.term }) form.rows

-- the terms that its variables are worth after it
abbrev pub letter_terms : SoFar → ℕ → SymbolicForm → List (Var × Term)
letter_terms f k form = map (λ (p : Var × Term). let q : Var × Term = (of_thread k f.havocs p.0, put_after f k p.1) in q) form.after

-- terms for several variables
abbrev pub with_terms : List (Var × Term) → List (Var × Term) → List (Var × Term)
with_terms [] after = after
with_terms (p ∷ ps) after = with_term p.0 p.1 (with_terms ps after)

-- what variables are worth after the letter
abbrev pub after_letter : SoFar → ℕ → SymbolicForm → SoFar
after_letter f k form = record { after = with_terms (letter_terms f k form) f.after; havocs = f.havocs + form.havocs }

-- the form of a letter's command
abbrev pub form_at : Graph → ℕ → SymbolicForm
form_at graph n = form_of (edge_ops graph.setting.commands graph.edges n)

-- the rows of letters that come after some letters
abbrev pub rows_after : Graph → SoFar → List (ℕ × ℕ) → List Row
rows_after graph f [] = []
rows_after graph f (l ∷ ls) = letter_rows f l.0 (form_at graph l.1) ++ rows_after graph (after_letter f l.0 (form_at graph l.1)) ls

-- before all letters each variable is worth itself
abbrev pub nothing_yet : SoFar
nothing_yet = record { after = []; havocs = 0 }

-- The rows of a trace: those of its start, and then those of each letter.
abbrev pub rows_of : Graph → List (ℕ × ℕ) → List Row
rows_of graph letters = rows_at_start graph.setting (threads_in_trace letters) ++ rows_after graph nothing_yet letters

-- each product and partial sum of the next letter's substitutions fits
abbrev pub LetterFits : SoFar → ℕ → SymbolicForm → Type 0
LetterFits f k form =
    All (λ (r : Row). SubstitutionFits f.after (term_of_thread k f.havocs r.term)) form.rows
    × All (λ (p : Var × Term). SubstitutionFits f.after (term_of_thread k f.havocs p.1)) form.after

abbrev pub LettersFit : Graph → SoFar → List (ℕ × ℕ) → Type 0
LettersFit graph f [] = Unit {0}
LettersFit graph f (l ∷ ls) = LetterFits f l.0 (form_at graph l.1) × LettersFit graph (after_letter f l.0 (form_at graph l.1)) ls

-- each product and partial sum of the substitutions that make the rows fits
abbrev pub RowsFit : Graph → List (ℕ × ℕ) → Type 0
RowsFit graph letters = LettersFit graph nothing_yet letters

-- how many havocs the letters take
abbrev pub havocs_of_letters : Graph → List (ℕ × ℕ) → ℕ
havocs_of_letters graph [] = 0
havocs_of_letters graph (l ∷ ls) = (form_at graph l.1).havocs + havocs_of_letters graph ls
