-- The index of a table: the least number of each predicate.
use Rattle.std.specs.Prelude.{◌≡◌, ℕ, List, Option, Some, None, if◌then◌else◌}
use Rattle.std.specs.List.{position_from}
use Rattle.std.specs.declared.hash.FoldHasher.{FoldHasher}
use Rattle.std.specs.declared.hash.BuildHasherDefault.{BuildHasherDefault}
use Rattle.indexmap.specs.IndexMap.{IndexMap, get}
use Rattle.ps_atom.specs.declared.key.Key.{Key}
use Rattle.ps_atom.specs.declared.predicate.Predicate.{Predicate}
use Rattle.ps_atom.specs.inner.Keys.{key_eq}
use Rattle.ps_atom.specs.Numbers.{IsTable}

-- a map from predicates to numbers
abbrev pub Index : Type 0
Index = IndexMap Key ℕ (BuildHasherDefault FoldHasher)

-- the predicate as a key
abbrev pub key_of : Predicate → Key
key_of predicate = record { predicate = predicate }

-- the first number, or else the second
abbrev pub or_else : Option ℕ → Option ℕ → Option ℕ
or_else None second = second
or_else (Some n) second = Some n

-- the least place of a key in the list
abbrev pub least : Key → List Predicate → Option ℕ
least key list = position_from (λ predicate. key_eq key (key_of predicate)) 0 list

-- the index gives the least place of each key
abbrev pub IsIndex : List Predicate → Index → Type 0
IsIndex list index = (key : Key) → get key_eq index key ≡ least key list

-- the map has one more key, unless it was there
abbrev pub IsNoted : Index → Key → ℕ → Index → Type 0
IsNoted old key number new = (k : Key) → get key_eq new k ≡ or_else (get key_eq old k) (if key_eq k key then Some number else None)

-- the map gives what it gave
abbrev pub IsSameIndex : Index → Index → Type 0
IsSameIndex old new = (k : Key) → get key_eq new k ≡ get key_eq old k

-- a table with its index
pub record IsIndexed (list : List Predicate) (index : Index) : Type 0 where
  pub table : IsTable list
  pub indexed : IsIndex list index
