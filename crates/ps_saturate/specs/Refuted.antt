-- Sets of atoms that are refuted before a command and the post after it.
use Rattle.std.specs.Prelude.{◌≡◌, ◌≢◌, ℕ, List, All, Contains}
use Rattle.ps_atom.specs.declared.atom.Atom.{Atom}
use Rattle.ps_atom.specs.declared.predicate.Predicate.{Predicate}
use Rattle.ps_command.specs.declared.setting.Setting.{Setting}
use Rattle.ps_elim.specs.Elimination.{IsElimination}
use Rattle.ps_elim.specs.declared.answer.Elim.TheVariants.{Refuted}
use Rattle.ps_triple.specs.Faults.{EntryHolds}
use Rattle.ps_triple.specs.Rows.{triple_rows}
use Rattle.ps_triple.specs.declared.entry.Entry.TheVariants.{Triple as OfTriple}
use Rattle.ps_triple.specs.declared.triple.Triple.{Triple}

-- the triple, with the set before the command and the post after it, has the multipliers with which the elimination refutes
-- its rows, and holds
pub record RefutesSet (setting : Setting) (predicates : List Predicate) (command : ℕ) (post : Atom) (set : List Atom) (t : Triple) : Type 0 where
  pub before : t.pre ≡ set
  pub runs : t.command ≡ command
  pub after : t.post ≡ post
  pub eliminated : IsElimination (triple_rows setting predicates t) (Refuted t.lambda)
  pub holds : EntryHolds setting predicates (OfTriple t)

-- there is such a triple; so the atoms of the set strictly ascend
abbrev pub IsRefutedSet : Setting → List Predicate → ℕ → Atom → List Atom → Type 0
IsRefutedSet setting predicates command post set = (t : Triple) × RefutesSet setting predicates command post set t

-- the set is refuted, and no other set of its atoms is
pub record IsLeastRefuted (setting : Setting) (predicates : List Predicate) (command : ℕ) (post : Atom) (set : List Atom) : Type 0 where
  pub refuted : IsRefutedSet setting predicates command post set
  pub least : (part : List Atom) → All (Contains set) part → part ≢ set → ¬ IsRefutedSet setting predicates command post part
