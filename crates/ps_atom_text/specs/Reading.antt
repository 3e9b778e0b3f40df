-- Reading predicates, atoms, entries and configurations, with the first fault.
use Rattle.std.specs.Prelude.{◌≡◌, refl, ℕ, ◌==◌, nat_le, Bool, true, false, ◌&&◌, List, [], ◌∷◌, ◌++◌, length, Option, Some, None, ok_or, option_map, option_and_then, Result, Ok, Err, codes, if◌then◌else◌}
use Rattle.std.specs.List.{list_all, slice_split}
use Rattle.ps_atom.specs.declared.atom.Atom.{Atom}
use Rattle.ps_atom.specs.declared.predicate.Predicate.{Predicate}
use Rattle.ps_atom_text.specs.declared.before.Before.{Before}
use Rattle.ps_atom_text.specs.declared.limits.TheConstants.{ANY_THREAD, MOST_BEFORE, MOST_THREAD}
use Rattle.ps_atom_text.specs.Forms.{in_form}
use Rattle.ps_atom_text.specs.Growing.{grow_at, goes_to}
use Rattle.ps_config.specs.Configurations.{Configuration}
use Rattle.ps_lines.specs.declared.form_name.FormName.{FormName}
use Rattle.ps_lines.specs.declared.form_name.FormName.TheVariants as name
use Rattle.ps_lines.specs.Decimal.{counts_as_decimal, u32_of}
use Rattle.ps_lines.specs.Parts.{cut_at}
use Rattle.ps_lines.specs.Reading.{Read, begins_at, end_at, leaf_at, line_at, list_at, natural, natural32, word_at}
use Rattle.ps_lines.specs.Steps.{◌>>=◌}
use Rattle.ps_term_text.specs.Reading.{term_at}
use Rattle.ps_triple.specs.Ascending.{ascend}
use Rattle.ps_triple.specs.declared.entry.Entry.{Entry}
use Rattle.ps_triple.specs.declared.entry.Entry.TheVariants.{Triple as OfTriple, Initial as OfInitial}

-- ---- atoms and places

-- The number of 32 bits that a field is, if it is at most this one.
abbrev pub number_up_to : ℕ → List ℕ → Option ℕ
number_up_to most field = option_and_then (λ n. if nat_le n most then Some n else None) (u32_of field)

-- The same of all fields.
abbrev pub numbers_up_to : ℕ → List (List ℕ) → Option (List ℕ)
numbers_up_to most [] = Some []
numbers_up_to most (f ∷ fs) = option_and_then (λ n. option_map (λ ns. n ∷ ns) (numbers_up_to most fs)) (number_up_to most f)

-- What stands between commas.
abbrev pub between_commas : List ℕ → List (List ℕ)
between_commas bytes = slice_split (λ b. b == 44) bytes

-- The parts of an atom: that of the predicate, and those of the threads, which stand after a `:`.
abbrev pub parts_round : List ℕ → Option (List ℕ × List ℕ) → List ℕ × List (List ℕ)
parts_round field None = (field, [])
parts_round field (Some parts) = (parts.0, between_commas parts.1)

-- An atom whose threads are at most this one: each part counts as a decimal, and each is a number in range.
abbrev pub atom_of : ℕ → List ℕ × List (List ℕ) → Option Atom
atom_of most parts = option_and_then (λ p. option_map (λ ts. record { predicate = p; threads = ts }) (numbers_up_to most parts.1)) (u32_of parts.0)

abbrev pub atom_from : ℕ → List ℕ × List (List ℕ) → Result Atom FormName
atom_from most parts = if counts_as_decimal parts.0 && list_all counts_as_decimal parts.1 then ok_or (atom_of most parts) name.Number else Err name.Field

abbrev pub atom_in_field : ℕ → List ℕ → Result Atom FormName
atom_in_field most field = atom_from most (parts_round field (cut_at 58 field))

-- A thread and its location, from the parts round a `:`.
abbrev pub place_of : List ℕ × List ℕ → Option (ℕ × ℕ)
place_of parts = option_and_then (λ t. option_map (λ l. (t, l)) (u32_of parts.1)) (number_up_to MOST_THREAD parts.0)

abbrev pub place_from : Option (List ℕ × List ℕ) → Result (ℕ × ℕ) FormName
place_from None = Err name.Field
place_from (Some parts) = if counts_as_decimal parts.0 && counts_as_decimal parts.1 then ok_or (place_of parts) name.Number else Err name.Field

abbrev pub place_in_field : List ℕ → Result (ℕ × ℕ) FormName
place_in_field field = place_from (cut_at 58 field)

-- ---- predicates

-- A line `pred ARITY TERM`.
unfoldable pub predicate_at : Read Predicate
predicate_at at = do
  w ← line_at (codes "pred") at
  arity ← leaf_at natural32 w.1
  term ← term_at arity.1
  e ← end_at term.1
  Ok (record { arity = arity.0; row = record { term = term.0 } }, e.1)

-- ---- entries

-- The atoms before a command, where they ascend and are few.
abbrev pub before_of : (atoms : List Atom) → (t : Bool) → ascend atoms ≡ t → Result Before FormName
before_of atoms true up = if nat_le (length atoms) MOST_BEFORE then Ok (record { atoms = atoms; ascends = up }) else Err name.Limit
before_of atoms false up = Err name.Order

abbrev pub none_before : Before
none_before = record { atoms = []; ascends = refl }

-- One more of them.
unfoldable pub before_with : Before → List ℕ → Result Before FormName
before_with before field = do
  q ← atom_in_field ANY_THREAD field
  before_of (before.atoms ++ q ∷ []) (ascend (before.atoms ++ q ∷ [])) refl

-- `by`, decimals of 128 bits, and the end of the line.
unfoldable pub lambda_at : Read (List ℕ)
lambda_at at = do
  w ← word_at (codes "by") at
  numbers ← list_at (λ _. true) (λ _. natural) (λ _ n. Some n) None w.1
  e ← end_at numbers.1
  Ok (numbers.0, e.1)

-- A line `init P by NUM NUM`.
unfoldable pub initial_at : Read Entry
initial_at at = do
  w ← line_at (codes "init") at
  predicate ← leaf_at natural32 w.1
  lambda ← lambda_at predicate.1
  Ok (OfInitial (record { predicate = predicate.0; lambda = lambda.0 }), lambda.1)

-- A line `triple C post ATOM pre ATOM ATOM by NUM NUM`.
unfoldable pub triple_at : Read Entry
triple_at at = do
  w ← line_at (codes "triple") at
  command ← leaf_at natural32 w.1
  o ← word_at (codes "post") command.1
  post ← leaf_at (atom_in_field ANY_THREAD) o.1
  p ← word_at (codes "pre") post.1
  pre ← grow_at (goes_to (codes "by")) before_with none_before p.1
  lambda ← lambda_at pre.1
  Ok (OfTriple (record { pre = pre.0.atoms; command = command.0; post = post.0; lambda = lambda.0; ascends = pre.0.ascends }), lambda.1)

-- A line of an entry: any first word but `init` and `triple` is `word`.
unfoldable pub entry_at : Read Entry
entry_at at = if begins_at (codes "init") at then initial_at at else triple_at at

-- ---- configurations

abbrev pub empty_configuration : Configuration
empty_configuration = record { at = []; atoms = [] }

-- One more thread with its location.
unfoldable pub with_place : Configuration → List ℕ → Result Configuration FormName
with_place c field = do
  p ← place_in_field field
  in_form (record { at = c.at ++ p ∷ []; atoms = c.atoms })

-- One more atom.
unfoldable pub with_atom : Configuration → List ℕ → Result Configuration FormName
with_atom c field = do
  q ← atom_in_field MOST_THREAD field
  in_form (record { at = c.at; atoms = c.atoms ++ q ∷ [] })

-- The fields of a configuration, up to the end of the line.
unfoldable pub configuration_at : Read Configuration
configuration_at at = do
  a ← word_at (codes "at") at
  located ← grow_at (goes_to (codes "has")) with_place empty_configuration a.1
  h ← word_at (codes "has") located.1
  grow_at (λ _. true) with_atom located.0 h.1

-- A line `config at T:L T:L has ATOM ATOM`.
unfoldable pub config_at : Read Configuration
config_at at = do
  w ← line_at (codes "config") at
  c ← configuration_at w.1
  e ← end_at c.1
  Ok (c.0, e.1)
