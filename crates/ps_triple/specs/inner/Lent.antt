-- The rows that are made for an entry, with those that are lent.
use Rattle.std.specs.Prelude.{List, ◌++◌}
use Rattle.ps_term.specs.declared.row.Row.{Row}
use Rattle.ps_triple.specs.declared.entry_rows.EntryRows.{EntryRows}

-- all of them in order
abbrev pub all_rows : EntryRows → List Row
all_rows rows = rows.before.items ++ (rows.lent.now ++ rows.after.items)
