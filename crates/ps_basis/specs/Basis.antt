-- A basis: its entries, and for how many more there is room.
use Rattle.std.specs.Prelude.{ℕ, List}
use Rattle.ps_triple.specs.declared.entry.Entry.{Entry}

pub record Growing : Type 0 where
  pub entries : List Entry
  pub room : ℕ
