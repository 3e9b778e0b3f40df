-- When entries have a triple for all that predicates give over few atoms.
use Rattle.std.specs.Prelude.{◌≡◌, ℕ, ◌<◌, ◌≤◌, List, [], ◌∷◌, length, All, Contains}
use Rattle.ps_atom.specs.declared.atom.Atom.{Atom}
use Rattle.ps_atom.specs.declared.predicate.Predicate.{Predicate}
use Rattle.ps_command.specs.declared.setting.Setting.{Setting}
use Rattle.ps_saturate.specs.Asked.{IsAskedAt}
use Rattle.ps_saturate.specs.Patterns.{IsSubject, post_of}
use Rattle.ps_saturate.specs.Refuted.{IsRefutedSet}
use Rattle.ps_saturate.specs.declared.pattern.Pattern.{Pattern}
use Rattle.ps_triple.specs.Entries.{AreAlike, GivesAtom, false_atom}
use Rattle.ps_triple.specs.declared.entry.Entry.{Entry}
use Rattle.ps_triple.specs.declared.entry.Entry.TheVariants.{Triple as OfTriple, Initial as OfInitial}
use Rattle.ps_triple.specs.declared.triple.Triple.{Triple}

-- up to renaming, some listed triple leads by the command to the post from atoms of the set
abbrev pub GivesInside : List Entry → ℕ → Atom → List Atom → Type 0
GivesInside entries command post set =
    (before : List Atom) × GivesAtom entries 0 command before post × All (Contains set) before

-- the entries have a triple inside each refuted set of at most `width` atoms of the first predicates, so many, that this
-- post, command and pattern ask for
abbrev pub IsAnswered : Setting → List Predicate → ℕ → List Entry → ℕ → ℕ → ℕ → Pattern → Type 0
IsAnswered setting predicates known entries width post command pattern = (set : List Atom) →
    IsAskedAt predicates known (post_of predicates post pattern) set → length set ≤ width →
    IsRefutedSet setting predicates command (post_of predicates post pattern) set →
    GivesInside entries command (post_of predicates post pattern) set

-- the entry names only the first predicates, so many
abbrev pub NamesFirst : ℕ → Entry → Type 0
NamesFirst known (OfTriple t) = All (λ (q : Atom). q.predicate < known) t.pre × (t.post.predicate < known)
NamesFirst known (OfInitial i) = i.predicate < known

-- that false leads to false by the command is listed
abbrev pub KeepsFalse : List Entry → ℕ → Type 0
KeepsFalse entries command = (t : Triple) × Contains entries (OfTriple t)
    × (t.pre ≡ false_atom ∷ []) × (t.command ≡ command) × (t.post ≡ false_atom)

-- the entries name no other predicates, keep false by every command, and have a triple inside each refuted set of at most
-- `width` atoms
pub record IsSaturated (setting : Setting) (predicates : List Predicate) (entries : List Entry) (width : ℕ) : Type 0 where
  pub named : All (NamesFirst (length predicates)) entries
  pub false_stays : (command : ℕ) → command < length setting.commands → KeepsFalse entries command
  pub answered : (post command : ℕ) (pattern : Pattern) → IsSubject setting predicates post command pattern →
      IsAnswered setting predicates (length predicates) entries width post command pattern

-- each entry of the first list has one like it in the second
abbrev pub AreThere : List Entry → List Entry → Type 0
AreThere some all = (entry : Entry) → Contains some entry → (other : Entry) × Contains all other × AreAlike entry other
