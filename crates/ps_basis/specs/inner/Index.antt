-- How entries are looked up: their keys and numbers, in order.
use Rattle.std.specs.Prelude.{◌≡◌, ℕ, ◌<◌, ◌≤◌, ◌↔◌, Bool, List, Option, Some, None, Contains, slice_get, ltb}
use Rattle.std.specs.List.Sorted.{IsSorted}
use Rattle.std.specs.Option.{option_cmp}
use Rattle.std.specs.Ordering.{nat_cmp, ordering_then}
use Rattle.std.specs.declared.cmp.Ordering.{Ordering}
use Rattle.ps_basis.specs.declared.key.Key.{Key}
use Rattle.ps_basis.specs.declared.place.Place.{Place}
use Rattle.ps_triple.specs.declared.entry.Entry.{Entry}
use Rattle.ps_triple.specs.declared.entry.Entry.TheVariants.{Triple as OfTriple, Initial as OfInitial}

-- what an entry is looked up by
abbrev pub key_of : Entry → Key
key_of (OfTriple t) = record { predicate = t.post.predicate; command = Some t.command }
key_of (OfInitial i) = record { predicate = i.predicate; command = None }

-- the order of keys, and that of places
abbrev pub key_cmp : Key → Key → Ordering
key_cmp a b = ordering_then (nat_cmp a.predicate b.predicate) (option_cmp nat_cmp a.command b.command)

abbrev pub place_cmp : Place → Place → Ordering
place_cmp a b = ordering_then (key_cmp a.key b.key) (nat_cmp a.number b.number)

-- the place of an entry: its key and its number
abbrev pub IsPlace : List Entry → Place → Type 0
IsPlace entries p = (entry : Entry) × (slice_get entries p.number ≡ Some entry) × (p.key ≡ key_of entry)

-- the places of all entries, in order
pub record IsIndex (entries : List Entry) (places : List Place) : Type 0 where
  pub sorted : IsSorted place_cmp places
  pub are : (p : Place) → Contains places p ↔ IsPlace entries p

-- there is a place of this key and number
abbrev pub HasPlace : List Place → Key → ℕ → Type 0
HasPlace places key n = Contains places (record { key = key; number = n })

-- the least number from this one on that stands with this key, or none where there is none
abbrev pub IsFirst : List Place → Key → ℕ → Option ℕ → Type 0
IsFirst places key from None = (n : ℕ) → from ≤ n → ¬ HasPlace places key n
IsFirst places key from (Some n) =
    (from ≤ n) × HasPlace places key n × ((k : ℕ) → from ≤ k → k < n → ¬ HasPlace places key k)

-- the place is that of an entry before this number
abbrev pub is_below : ℕ → Place → Bool
is_below count p = ltb p.number count
