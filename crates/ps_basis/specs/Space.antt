-- The proof space of a list of entries, over traces of pairs of a thread and a command. Lists of atoms stand for sets.
use Rattle.std.specs.Prelude.{ℕ, ◌⊎◌, ◌↔◌, List, [], ◌∷◌, ◌++◌, All, Contains}
use Rattle.ps_atom.specs.declared.atom.Atom.{Atom}
use Rattle.ps_triple.specs.declared.entry.Entry.{Entry}
use Rattle.ps_triple.specs.Entries.{GivesAtom, HasInitial, false_atom}

-- each atom of the first is one of the second
abbrev pub IsPart : List Atom → List Atom → Type 0
IsPart a b = (q : Atom) → Contains a q → Contains b q

-- the third set is the union of the two
abbrev pub IsUnion : List Atom → List Atom → List Atom → Type 0
IsUnion a b c = (q : Atom) → Contains c q ↔ (Contains a q ⊎ Contains b q)

-- the triples of the space: the listed ones under every renaming, and the empty one, of one letter; the unions of two of
-- one trace; and two one after another, where what the second needs is part of what the first leaves
pub data InSpace (entries : List Entry) : List (ℕ × ℕ) → List Atom → List Atom → Type 0 where
  listed : {thread command : ℕ} {a : List Atom} {q : Atom} → GivesAtom entries thread command a q →
      InSpace entries ((thread, command) ∷ []) a (q ∷ [])
  idle : {thread command : ℕ} → InSpace entries ((thread, command) ∷ []) [] []
  union : {trace : List (ℕ × ℕ)} {a b c d e f : List Atom} → InSpace entries trace a b → InSpace entries trace c d →
      IsUnion a c e → IsUnion b d f → InSpace entries trace e f
  sequence : {s t : List (ℕ × ℕ)} {a b c d : List Atom} → InSpace entries s a b → InSpace entries t c d →
      IsPart c b → InSpace entries (s ++ t) a d

-- false follows from atoms that hold initially
pub record IsProved (entries : List Entry) (trace : List (ℕ × ℕ)) : Type 0 where
  pub initial : List Atom
  pub hold : All (λ (q : Atom). HasInitial entries q.predicate) initial
  pub proof : InSpace entries trace initial (false_atom ∷ [])
