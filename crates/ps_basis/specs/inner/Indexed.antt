-- What a basis keeps beside its entries.
use Rattle.std.specs.Prelude.{◌+◌, ◌≤◌, length}
use Rattle.std.specs.Vec.{vec_capacity, vec_len}
use Rattle.ps_basis.specs.declared.basis.Basis.TheInside.{Inside}
use Rattle.ps_basis.specs.declared.limits.TheConstants.{MOST_ENTRIES}
use Rattle.ps_basis.specs.inner.Index.{IsIndex}

-- there are few entries, with an index of them, and room for as many more as were reserved in both
pub record IsIndexed (b : Inside) : Type 0 where
  pub few : length b.list.items ≤ MOST_ENTRIES
  pub index : IsIndex b.list.items b.index.places.items
  pub list_room : vec_len b.list + b.room ≤ vec_capacity b.list
  pub index_room : vec_len b.index.places + b.room ≤ vec_capacity b.index.places
