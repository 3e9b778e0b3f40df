-- Which threads a question is about: thread 0 runs the command, and the post has a thread for each of its slots.
use Rattle.std.specs.Prelude.{◌≡◌, ℕ, zero, suc, ◌+◌, ◌-◌, ◌<◌, ◌≤◌, List, [], ◌∷◌, length, insert}
use Rattle.ps_atom.specs.declared.atom.Atom.{Atom}
use Rattle.ps_atom.specs.declared.predicate.Predicate.{Predicate}
use Rattle.ps_command.specs.declared.setting.Setting.{Setting}
use Rattle.ps_saturate.specs.declared.pattern.Pattern.{Pattern}
use Rattle.ps_saturate.specs.declared.pattern.Pattern.TheVariants.{None, Mover, Other}
use Rattle.ps_triple.specs.Rows.{predicate_of}

-- the pattern fits a post with so many slots: there is none, the mover is one of them, or it is none of them
abbrev pub FitsSlots : Pattern → ℕ → Type 0
FitsSlots None slots = slots ≡ 0
FitsSlots (Mover slot) slots = slot < slots
FitsSlots Other slots = 0 < slots

-- so many threads, from this number on
abbrev pub threads_from : ℕ → ℕ → List ℕ
threads_from first zero = []
threads_from first (suc count) = first ∷ threads_from (first + 1) count

-- the threads of the post in the order of its slots: the mover is thread 0, and the others are 1 and on
abbrev pub post_threads : Pattern → ℕ → List ℕ
post_threads None slots = []
post_threads (Mover slot) slots = insert (threads_from 1 (slots - 1)) slot 0
post_threads Other slots = threads_from 1 slots

-- the post: the predicate of this number, of these threads
abbrev pub post_of : List Predicate → ℕ → Pattern → Atom
post_of predicates post pattern =
    record { predicate = post; threads = post_threads pattern (predicate_of predicates post).arity }

-- the post is one of the predicates and has at most two slots, the command is there, and the pattern fits the post
pub record IsSubject (setting : Setting) (predicates : List Predicate) (post command : ℕ) (pattern : Pattern) : Type 0 where
  pub post_is : post < length predicates
  pub slots : (predicate_of predicates post).arity ≤ 2
  pub command_is : command < length setting.commands
  pub fits : FitsSlots pattern (predicate_of predicates post).arity
