-- What a refuted trace gives, apart from any order in which its cuts are met.
use Rattle.std.specs.Prelude.{◌≡◌, ℕ, ◌<◌, ◌≤◌, ◌⊎◌, List, Some, slice_get}
use Rattle.ps_atom.specs.declared.predicate.Predicate.{Predicate}
use Rattle.ps_command.specs.declared.setting.Setting.{Setting}
use Rattle.ps_interp.specs.Cuts.{AreBounds, sum_at}
use Rattle.ps_interp.specs.Entries.{false_triple, initial_of}
use Rattle.ps_interp.specs.Interpolants.{Interpolant, IsPredicateAt, StandsAt}
use Rattle.ps_interp.specs.Made.{IsTripleAt, letters_of}
use Rattle.ps_triple.specs.declared.entry.Entry.{Entry}

-- the predicate is that of an interpolant at a cut from the lowest one up to below the least false one
pub record IsPredicateOf (setting : Setting) (trace : List (ℕ × ℕ)) (lambda : List ℕ) (predicate : Predicate) : Type 0 where
  pub low : ℕ
  pub high : ℕ
  pub bounds : AreBounds (letters_of setting trace lambda) low high
  pub cut : ℕ
  pub above : low ≤ cut
  pub below : cut < high
  pub is : IsPredicateAt (sum_at (letters_of setting trace lambda) cut) (Some predicate)

-- the entry is the triple from false to false of a letter from the least false cut on, the triple of a letter between the bounds,
-- or the initial entry; predicates have their numbers in the list
pub record IsEntryOf (setting : Setting) (list : List Predicate) (trace : List (ℕ × ℕ)) (lambda : List ℕ) (entry : Entry) : Type 0 where
  pub low : ℕ
  pub high : ℕ
  pub bounds : AreBounds (letters_of setting trace lambda) low high
  pub is : ((cut : ℕ) × (letter : ℕ × ℕ) × (high ≤ cut) × (slice_get trace cut ≡ Some letter) × (entry ≡ false_triple setting letter.1))
      ⊎ (((cut : ℕ) × (low ≤ cut) × (cut < high) × IsTripleAt (letters_of setting trace lambda) list cut entry)
      ⊎ ((q : Interpolant) × StandsAt list (sum_at (letters_of setting trace lambda) low) (Some q) × (entry ≡ initial_of setting trace lambda q)))
