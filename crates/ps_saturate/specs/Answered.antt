-- The answer to a question.
use Rattle.std.specs.Prelude.{ℕ, List, [], length, map, All, Contains}
use Rattle.std.specs.Cmp.Lexicographic.{slice_cmp}
use Rattle.std.specs.List.Sorted.{IsStrictlySortedBy}
use Rattle.std.specs.Ordering.{nat_cmp, ordering_then}
use Rattle.std.specs.declared.cmp.Ordering.{Ordering}
use Rattle.ps_atom.specs.Atoms.{atom_cmp}
use Rattle.ps_atom.specs.declared.atom.Atom.{Atom}
use Rattle.ps_atom.specs.declared.predicate.Predicate.{Predicate}
use Rattle.ps_command.specs.declared.setting.Setting.{Setting}
use Rattle.ps_saturate.specs.Asked.{Asks, asked_post}
use Rattle.ps_saturate.specs.Refuted.{IsLeastRefuted, IsRefutedSet, RefutesSet}
use Rattle.ps_saturate.specs.declared.question.Question.{Question}
use Rattle.ps_triple.specs.declared.entry.Entry.{Entry}
use Rattle.ps_triple.specs.declared.entry.Entry.TheVariants.{Triple as OfTriple, Initial as OfInitial}

-- the order of sets: by size, and those of one size by the first atom that differs
abbrev pub set_cmp : List Atom → List Atom → Ordering
set_cmp a b = ordering_then (nat_cmp (length a) (length b)) (slice_cmp atom_cmp a b)

-- the set before the command of a triple
abbrev pub set_of : Entry → List Atom
set_of (OfTriple t) = t.pre
set_of (OfInitial _) = []

-- the entry is the triple of a least refuted set that the question asks for
abbrev pub IsAskedTriple : Setting → List Predicate → Question → ℕ → Entry → Type 0
IsAskedTriple setting predicates question width (OfTriple t) =
    Asks predicates question width t.pre
    × IsLeastRefuted setting predicates question.command (asked_post predicates question) t.pre
    × RefutesSet setting predicates question.command (asked_post predicates question) t.pre t
IsAskedTriple setting predicates question width (OfInitial _) = ⊥

-- the entries are the triples of exactly the least refuted sets that the question asks for, in the order of these sets;
-- and each refuted set that it asks for has a least one inside
pub record IsAnswerTo (setting : Setting) (predicates : List Predicate) (question : Question) (width : ℕ) (entries : List Entry) : Type 0 where
  pub asked : All (IsAskedTriple setting predicates question width) entries
  pub every : (set : List Atom) → Asks predicates question width set →
      IsLeastRefuted setting predicates question.command (asked_post predicates question) set → Contains (map set_of entries) set
  pub ordered : IsStrictlySortedBy set_cmp (map set_of entries)
  pub inside : (set : List Atom) → Asks predicates question width set →
      IsRefutedSet setting predicates question.command (asked_post predicates question) set →
      (part : List Atom) × All (Contains set) part × IsLeastRefuted setting predicates question.command (asked_post predicates question) part

-- an answer with all that it was made for
pub record Answered : Type 0 where
  pub setting : Setting
  pub predicates : List Predicate
  pub question : Question
  pub width : ℕ
  pub entries : List Entry

-- its entries are the answer
abbrev pub IsAnswer : Answered → Type 0
IsAnswer a = IsAnswerTo a.setting a.predicates a.question a.width a.entries
