-- How sets of atoms are tried, one after another.
use Rattle.std.specs.Prelude.{◌≡◌, ℕ, ◌<◌, ◌≤◌, ◌==◌, Bool, true, false, not, ◌||◌, nat_lt, List, [], ◌∷◌, ◌++◌, length, map, filter, All, Contains}
use Rattle.std.specs.List.{list_any}
use Rattle.std.specs.List.Sorted.{IsStrictlySortedBy}
use Rattle.ps_atom.specs.Atoms.{atom_cmp}
use Rattle.ps_atom.specs.declared.atom.Atom.{Atom}
use Rattle.ps_atom.specs.declared.predicate.Predicate.{Predicate}
use Rattle.ps_command.specs.declared.setting.Setting.{Setting}
use Rattle.ps_saturate.specs.Answered.{set_cmp}
use Rattle.ps_saturate.specs.Asked.{Asks, IsAskedAt, IsAskedAtom, asked_post}
use Rattle.ps_saturate.specs.Refuted.{IsLeastRefuted, IsRefutedSet, RefutesSet}
use Rattle.ps_saturate.specs.declared.choice.Choice.{Choice}
use Rattle.ps_saturate.specs.declared.question.Question.{Question}
use Rattle.ps_saturate.specs.declared.trial.Trial.{Trial}
use Rattle.ps_term.specs.Negation.{NegationFits}
use Rattle.ps_term.specs.Substitution.{SubstitutionFits}
use Rattle.ps_triple.specs.Rows.{atom_row, form_in, negated, row_after}
use Rattle.ps_triple.specs.Tests.{HasThreadsOnce, IsAtomOf, IsThere, IsTiedTo}
use Rattle.ps_triple.specs.declared.entry.Entry.{Entry}
use Rattle.ps_triple.specs.declared.entry.Entry.TheVariants.{Triple as OfTriple}
use Rattle.ps_triple.specs.declared.triple.Triple.{Triple}
use Rattle.ps_term.specs.declared.row.Row.{Row}
use denote.Ref.{Bor}

-- what the references point to
abbrev pub pointed_to : List (Bor Choice) → List Choice
pointed_to refs = map (λ r. r.now) refs

-- the atoms of choices, and their rows
abbrev pub atoms_of : List Choice → List Atom
atoms_of cs = map (λ c. c.atom) cs

abbrev pub rows_of : List Choice → List Row
rows_of cs = map (λ c. c.row) cs

-- the atom may stand before the command of a triple with this post, and its row is made
pub record IsChoice (setting : Setting) (predicates : List Predicate) (post : Atom) (c : Choice) : Type 0 where
  pub named : IsAtomOf setting predicates c.atom
  pub once : HasThreadsOnce c.atom
  pub tied : IsTiedTo post.threads c.atom
  pub row_is : c.row ≡ atom_row predicates c.atom

-- all that is asked of the command and of the post stands, and their rows are made
pub record IsReady (trial : Trial) : Type 0 where
  pub command : trial.question.command < length trial.setting.now.commands
  pub post_is : trial.post ≡ asked_post trial.predicates.now trial.question
  pub named : IsAtomOf trial.setting.now trial.predicates.now trial.post
  pub once : HasThreadsOnce trial.post
  pub negation : NegationFits (atom_row trial.predicates.now trial.post)
  pub substitution : SubstitutionFits (form_in trial.setting.now trial.question.command).after
      (negated (atom_row trial.predicates.now trial.post)).term
  pub rows_are : trial.rows.items ≡ (form_in trial.setting.now trial.question.command).rows
      ++ row_after (form_in trial.setting.now trial.question.command) (negated (atom_row trial.predicates.now trial.post)) ∷ []

-- the trial is the question's
pub record IsTrialOf (setting : Setting) (predicates : List Predicate) (question : Question) (width : ℕ) (trial : Trial) : Type 0 where
  pub setting_is : trial.setting.now ≡ setting
  pub predicates_are : trial.predicates.now ≡ predicates
  pub question_is : trial.question ≡ question
  pub width_is : trial.width ≡ width
  pub some : 0 < question.now

-- the choice is one for the trial
abbrev pub IsChoiceOf : Trial → Choice → Type 0
IsChoiceOf trial c = IsChoice trial.setting.now trial.predicates.now trial.post c

-- the triple shows that the set is refuted before the command of the trial
abbrev pub ShowsSet : Trial → List Atom → Triple → Type 0
ShowsSet trial set t = RefutesSet trial.setting.now trial.predicates.now trial.question.command trial.post set t

-- the set is refuted before the command of the trial
abbrev pub IsRefutedIn : Trial → List Atom → Type 0
IsRefutedIn trial set = IsRefutedSet trial.setting.now trial.predicates.now trial.question.command trial.post set

-- some triple that was found has only atoms of the set before its command
abbrev pub IsBlocked : List Triple → List Atom → Type 0
IsBlocked found set = (t : Triple) × Contains found t × All (Contains set) t.pre

-- the set wasn't asked for where there were so many predicates
abbrev pub is_new : ℕ → List Atom → Bool
is_new old set = (old == 0) || list_any (λ (q : Atom). not (nat_lt q.predicate old)) set

-- the set is looked at: it is asked for, or larger sets may be
abbrev pub is_wanted : ℕ → ℕ → List Atom → Bool
is_wanted width old set = nat_lt (length set) width || is_new old set

-- what is found after the set was tried: nothing more where it isn't wanted, where a part of it was found, or where it isn't
-- refuted, and else its triple
pub data IsTried (trial : Trial) (found : List Triple) (set : List Atom) : List Triple → Type 0 where
  unwanted : is_wanted trial.width trial.question.old set ≡ false → IsTried trial found set found
  blocked : IsBlocked found set → IsTried trial found set found
  unrefuted : (¬ IsRefutedIn trial set) → IsTried trial found set found
  refuted : (t : Triple) → (¬ IsBlocked found set) → ShowsSet trial set t → IsTried trial found set (found ++ t ∷ [])

-- the sets were tried in their order
abbrev pub AreTried : Trial → List (List Atom) → List Triple → List Triple → Type 0
AreTried trial [] found new = found ≡ new
AreTried trial (set ∷ sets) found new = (next : List Triple) × IsTried trial found set next × AreTried trial sets next new

-- of so many predicates, an atom of one that is in range
abbrev pub IsUsable : Setting → List Predicate → ℕ → Atom → Atom → Type 0
IsUsable setting predicates known post q =
    IsAskedAtom predicates known post q × IsThere setting predicates q.predicate

-- the choices are exactly the atoms of so many predicates that are asked for and in range, ascending, with their rows
pub record AreChoices (setting : Setting) (predicates : List Predicate) (known : ℕ) (post : Atom) (list : List Choice) : Type 0 where
  pub made : All (IsChoice setting predicates post) list
  pub usable : All (IsUsable setting predicates known post) (atoms_of list)
  pub every : (q : Atom) → IsUsable setting predicates known post q → Contains (atoms_of list) q
  pub ascend : IsStrictlySortedBy atom_cmp (atoms_of list)

-- what was found shows least refuted sets of at most so many atoms, in their order, and has a part of each set that is wanted
-- and refuted
pub record AreFound (trial : Trial) (found : List Triple) : Type 0 where
  pub least : All (λ t. ShowsSet trial t.pre t × IsLeastRefuted trial.setting.now trial.predicates.now trial.question.command trial.post t.pre
      × All (IsAskedAtom trial.predicates.now trial.question.now trial.post) t.pre × (length t.pre ≤ trial.width)) found
  pub inside : (set : List Atom) → IsAskedAt trial.predicates.now trial.question.now trial.post set → length set ≤ trial.width →
      is_wanted trial.width trial.question.old set ≡ true → IsRefutedIn trial set → IsBlocked found set
  pub ordered : IsStrictlySortedBy set_cmp (map (λ t. t.pre) found)

-- the triples of the sets that weren't asked for before
abbrev pub new_entries : ℕ → List Triple → List Entry
new_entries old found = map (λ t. OfTriple t) (filter (λ t. is_new old t.pre) found)

-- no set that the question asks for is refuted
abbrev pub GivesNothing : Setting → List Predicate → Question → ℕ → Type 0
GivesNothing setting predicates question width = (set : List Atom) → Asks predicates question width set →
    ¬ IsRefutedSet setting predicates question.command (asked_post predicates question) set
