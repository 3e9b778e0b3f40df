-- What is wrong with a field of which some number can't be read: a part isn't in form, or else its number isn't canonical
-- or in range.
use Rattle.std.specs.Prelude.{List, ℕ, ◌&&◌, if◌then◌else◌}
use Rattle.std.specs.List.{list_all}
use Rattle.ps_lines.specs.declared.form_name.FormName.{FormName}
use Rattle.ps_lines.specs.declared.form_name.FormName.TheVariants as name
use Rattle.ps_lines.specs.Decimal.{counts_as_decimal}

abbrev pub atom_fault : List ℕ → List (List ℕ) → FormName
atom_fault predicate threads = if counts_as_decimal predicate && list_all counts_as_decimal threads then name.Number else name.Field

abbrev pub place_fault : List ℕ × List ℕ → FormName
place_fault parts = if counts_as_decimal parts.0 && counts_as_decimal parts.1 then name.Number else name.Field
