-- The rows of entries.
use Rattle.std.specs.Prelude.{ℕ, zero, suc, ◌+◌, pos, negsuc, List, [], ◌∷◌, ◌++◌, map, slice_index_or}
use Rattle.ps_term.specs.Exact.{number_term, plus_scaled, substituted}
use Rattle.ps_term.specs.declared.row.Row.{Row}
use Rattle.ps_command.specs.Form.{empty_form}
use Rattle.ps_command.specs.declared.setting.Setting.{Setting}
use Rattle.ps_command.specs.declared.symbolic_form.SymbolicForm.{SymbolicForm}
use Rattle.ps_atom.specs.Atoms.{at_threads}
use Rattle.ps_atom.specs.Numbers.{false_predicate}
use Rattle.ps_atom.specs.declared.atom.Atom.{Atom}
use Rattle.ps_atom.specs.declared.predicate.Predicate.{Predicate}
use Rattle.ps_triple.specs.Places.{row_by}
use Rattle.ps_triple.specs.declared.initial.Initial.{Initial}
use Rattle.ps_triple.specs.declared.triple.Triple.{Triple}

-- the predicate of a number; past the list it is false
abbrev pub predicate_of : List Predicate → ℕ → Predicate
predicate_of predicates n = slice_index_or predicates n false_predicate

-- the symbolic form of the command of a number
abbrev pub form_in : Setting → ℕ → SymbolicForm
form_in setting n = slice_index_or setting.symbols n empty_form

-- the row of an atom: that of its predicate, with its threads for the slots
abbrev pub atom_row : List Predicate → Atom → Row
atom_row predicates q = row_by (at_threads q.threads) (predicate_of predicates q.predicate).row

-- the row `1 - t <= 0` of a row `t <= 0`
abbrev pub negated : Row → Row
negated r = record { term = plus_scaled (number_term (pos 1)) (negsuc 0) r.term }

-- the row after a command, as one on the values before it
abbrev pub row_after : SymbolicForm → Row → Row
row_after form r = record { term = substituted form.after r.term }

-- the rows of a triple: those of the atoms before in order, those of the command, and that the atom after fails after it
abbrev pub triple_rows : Setting → List Predicate → Triple → List Row
triple_rows setting predicates t =
    map (atom_row predicates) t.pre
    ++ ((form_in setting t.command).rows ++ row_after (form_in setting t.command) (negated (atom_row predicates t.post)) ∷ [])

-- the rows for each of the threads below a number, in ascending order
abbrev pub rows_of_threads : List Row → ℕ → List Row
rows_of_threads each zero = []
rows_of_threads each (suc n) = rows_of_threads each n ++ map (row_by (at_threads (n ∷ []))) each

-- the rows of an initial entry: those that hold once, those of each slot's thread and of one thread more, and that the
-- predicate fails of the slots' threads
abbrev pub initial_rows : Setting → List Predicate → Initial → List Row
initial_rows setting predicates i =
    setting.init_once
    ++ (rows_of_threads setting.init_each ((predicate_of predicates i.predicate).arity + 1)
    ++ negated (predicate_of predicates i.predicate).row ∷ [])
