-- The rows and multipliers of an entry, and when no value of their making and sum is past 128 bits.
use Rattle.std.specs.Prelude.{ℕ, List}
use Rattle.ps_term.specs.Negation.{NegationFits}
use Rattle.ps_term.specs.Substitution.{SubstitutionFits}
use Rattle.ps_term.specs.declared.row.Row.{Row}
use Rattle.ps_farkas.specs.Refutes.{AllSumsFit}
use Rattle.ps_command.specs.declared.setting.Setting.{Setting}
use Rattle.ps_atom.specs.declared.predicate.Predicate.{Predicate}
use Rattle.ps_triple.specs.Rows.{atom_row, form_in, initial_rows, negated, predicate_of, triple_rows}
use Rattle.ps_triple.specs.declared.entry.Entry.{Entry}
use Rattle.ps_triple.specs.declared.entry.Entry.TheVariants.{Triple as OfTriple, Initial as OfInitial}

-- the rows of an entry
abbrev pub entry_rows : Setting → List Predicate → Entry → List Row
entry_rows setting predicates (OfTriple t) = triple_rows setting predicates t
entry_rows setting predicates (OfInitial i) = initial_rows setting predicates i

-- the multipliers of an entry
abbrev pub lambda_of : Entry → List ℕ
lambda_of (OfTriple t) = t.lambda
lambda_of (OfInitial i) = i.lambda

-- the values of making the rows fit: the last row is negated, and that of a triple put after the command
abbrev pub MakingFits : Setting → List Predicate → Entry → Type 0
MakingFits setting predicates (OfTriple t) =
    NegationFits (atom_row predicates t.post)
    × SubstitutionFits (form_in setting t.command).after (negated (atom_row predicates t.post)).term
MakingFits setting predicates (OfInitial i) = NegationFits (predicate_of predicates i.predicate).row

-- so do those of the sum
abbrev pub EntryFits : Setting → List Predicate → Entry → Type 0
EntryFits setting predicates entry =
    MakingFits setting predicates entry × AllSumsFit (entry_rows setting predicates entry) (lambda_of entry)
