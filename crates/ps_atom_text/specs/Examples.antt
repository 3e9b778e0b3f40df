-- Worked examples: what fields and lines are read as, and which fault is the first.
use Rattle.std.specs.Prelude.{◌≡◌, ℕ, List, [], ◌∷◌, ◌++◌, Result, Ok, Err, codes, refl}
use Rattle.ps_atom.specs.declared.atom.Atom.{Atom}
use Rattle.ps_atom_text.specs.declared.limits.TheConstants.{MOST_THREAD}
use Rattle.ps_atom_text.specs.Reading.{atom_in_field, config_at, entry_at}
use Rattle.ps_config.specs.Configurations.{Configuration}
use Rattle.ps_lines.specs.declared.form_fault.FormFault.{FormFault}
use Rattle.ps_lines.specs.declared.form_name.FormName.{FormName}
use Rattle.ps_lines.specs.declared.form_name.FormName.TheVariants as name
use Rattle.ps_lines.specs.Reading.{Read, text_start, value_read}
use Rattle.ps_triple.specs.declared.entry.Entry.{Entry}
use Rattle.ps_triple.specs.declared.entry.Entry.TheVariants.{Triple as OfTriple, Initial as OfInitial}

abbrev pub named : ℕ → List ℕ → Atom
named predicate threads = record { predicate = predicate; threads = threads }

-- what is read from a line, the first one of a text
abbrev pub line_read : {A : Type 0} → Read A → List ℕ → Result A FormFault
line_read read fields = value_read (read (text_start 1 (fields ++ 10 ∷ [])))

abbrev pub refused : ℕ → FormName → FormFault
refused field what = record { line = 1; field = field; what = what }

-- Thread 64 isn't one of a configuration. Of a field that isn't of its form no number counts.
abbrev pub AtomsAre : Type 0
AtomsAre =
    (atom_in_field MOST_THREAD (codes "7") ≡ Ok (named 7 []))
    × (atom_in_field MOST_THREAD (codes "1:0,2") ≡ Ok (named 1 (0 ∷ 2 ∷ [])))
    × (atom_in_field MOST_THREAD (codes "1:64") ≡ Err name.Number)
    × (atom_in_field MOST_THREAD (codes "1:64,") ≡ Err name.Field)

-- thread 0 at location 3, and predicate 1 of thread 5
abbrev pub one_place : Configuration
one_place = record { at = (0, 3) ∷ []; atoms = named 1 (5 ∷ []) ∷ [] }

-- A thread may not stand twice, nor in a lower place. The 13th thread is the second one of the second atom.
abbrev pub ConfigsAre : Type 0
ConfigsAre =
    (line_read config_at (codes "config at 0:3 has 1:5") ≡ Ok one_place)
    × (line_read config_at (codes "config at 1:0 1:2 has") ≡ Err (refused 4 name.Order))
    × (line_read config_at (codes "config at 0:5 has 1:1,2,3,4,5,6,7,8,9,10,11 2:11,12") ≡ Err (refused 6 name.Limit))

abbrev pub one_triple : Entry
one_triple = OfTriple (record { pre = named 1 [] ∷ []; command = 2; post = named 0 []; lambda = 1 ∷ 1 ∷ 0 ∷ []; ascends = refl })

-- Another first word than the two is a fault of the line's first field. An atom before may not stand twice.
abbrev pub EntriesAre : Type 0
EntriesAre =
    (line_read entry_at (codes "init 2 by 0 1") ≡ Ok (OfInitial (record { predicate = 2; lambda = 0 ∷ 1 ∷ [] })))
    × (line_read entry_at (codes "triple 2 post 0 pre 1 by 1 1 0") ≡ Ok one_triple)
    × (line_read entry_at (codes "initial 2 by 0 1") ≡ Err (refused 1 name.Word))
    × (line_read entry_at (codes "triple 0 post 0 pre 1 1 by") ≡ Err (refused 7 name.Order))
