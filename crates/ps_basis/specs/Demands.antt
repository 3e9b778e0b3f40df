-- What an atom demands, letter by letter from the last to the first.
use Rattle.std.specs.Prelude.{ℕ, List, [], ◌∷◌, All}
use Rattle.ps_atom.specs.declared.atom.Atom.{Atom}
use Rattle.ps_triple.specs.declared.entry.Entry.{Entry}
use Rattle.ps_triple.specs.Entries.{GivesAtom, HasInitial}

-- The letters, from the last to the first, give the atom: with no letter it is given, and after a letter some renamed
-- triple has it, all whose atoms before the letter are given.
abbrev pub IsGivenFrom : List Entry → (Atom → Type 0) → List (ℕ × ℕ) → Atom → Type 0
IsGivenFrom entries Given [] q = Given q
IsGivenFrom entries Given (l ∷ before) q = (a : List Atom) × GivesAtom entries l.0 l.1 a q × All (IsGivenFrom entries Given before) a

-- from atoms that hold initially
abbrev pub IsGiven : List Entry → List (ℕ × ℕ) → Atom → Type 0
IsGiven entries = IsGivenFrom entries (λ (q : Atom). HasInitial entries q.predicate)
