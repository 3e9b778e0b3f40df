-- The atoms that are looked at, from the last letter to the first.
use Rattle.std.specs.Prelude.{◌≡◌, ℕ, List, [], ◌∷◌}
use Rattle.std.specs.List.Sorted.{IsStrictlySortedBy}
use Rattle.ps_atom.specs.Atoms.{atom_cmp}
use Rattle.ps_atom.specs.declared.atom.Atom.{Atom}
use Rattle.ps_demand.specs.Demands.{demands}
use Rattle.ps_demand.specs.Pools.{HasAll}
use Rattle.ps_member.specs.declared.cut.Cut.{Cut}
use Rattle.ps_member.specs.declared.cut.Walk.{Walk}
use Rattle.ps_triple.specs.Entries.{false_atom}
use Rattle.ps_triple.specs.declared.entry.Entry.{Entry}

-- the thread and the command
abbrev pub letter_of : Cut → ℕ × ℕ
letter_of cut = (cut.thread, cut.command)

-- the atoms after a letter ascend, and those before it have all that they demand
pub record IsCut (entries : List Entry) (cut : Cut) (before : List Atom) : Type 0 where
  pub ascend : IsStrictlySortedBy atom_cmp cut.after.items
  pub all : HasAll before (demands entries cut.after.items cut.thread cut.command)

-- after the last letter are these atoms, and before the first one those
abbrev pub IsWalkFrom : List Entry → List Atom → List Cut → List Atom → Type 0
IsWalkFrom entries last [] first = (last ≡ first) × IsStrictlySortedBy atom_cmp first
IsWalkFrom entries last (cut ∷ cuts) first =
    (cut.after.items ≡ last) × ((before : List Atom) × IsCut entries cut before × IsWalkFrom entries before cuts first)

-- after the last letter is false alone
abbrev pub IsWalk : List Entry → Walk → Type 0
IsWalk entries walk = IsWalkFrom entries (false_atom ∷ []) walk.cuts.items walk.first.items
