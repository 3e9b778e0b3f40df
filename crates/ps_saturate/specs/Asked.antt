-- Which sets of atoms are asked for. A set is written as the one ascending list of its atoms.
use Rattle.std.specs.Prelude.{◌≡◌, ℕ, ◌<◌, ◌≤◌, List, length, All, IsTrue}
use Rattle.ps_atom.specs.declared.atom.Atom.{Atom}
use Rattle.ps_atom.specs.declared.predicate.Predicate.{Predicate}
use Rattle.ps_command.specs.declared.setting.Setting.{Setting}
use Rattle.ps_saturate.specs.Patterns.{IsSubject, post_of}
use Rattle.ps_saturate.specs.declared.question.Question.{Question}
use Rattle.ps_triple.specs.Ascending.{ascend}
use Rattle.ps_triple.specs.Rows.{predicate_of}
use Rattle.ps_triple.specs.Tests.{HasThreadsOnce, IsTiedTo}

-- an atom of the first predicates, so many, but not of false: each slot has a thread, none twice, and each is thread 0 or
-- one of the post's
pub record IsAskedAtom (predicates : List Predicate) (known : ℕ) (post : Atom) (q : Atom) : Type 0 where
  pub known_is : q.predicate < known
  pub not_false : 0 < q.predicate
  pub slots : length q.threads ≡ (predicate_of predicates q.predicate).arity
  pub once : HasThreadsOnce q
  pub tied : IsTiedTo post.threads q

-- the set is asked for where so many predicates are known; where none is, not even the empty set is
pub record IsAskedAt (predicates : List Predicate) (known : ℕ) (post : Atom) (set : List Atom) : Type 0 where
  pub some : 0 < known
  pub ascends : IsTrue (ascend set)
  pub atoms : All (IsAskedAtom predicates known post) set

-- the question has a post, a command and a pattern, and names no more predicates than there are
pub record IsQuestion (setting : Setting) (predicates : List Predicate) (question : Question) : Type 0 where
  pub subject : IsSubject setting predicates question.post question.command question.pattern
  pub now : question.now ≤ length predicates

-- the post of the question
abbrev pub asked_post : List Predicate → Question → Atom
asked_post predicates question = post_of predicates question.post question.pattern

-- the question asks for the set of at most `width` atoms: it is asked for now, and wasn't before
pub record Asks (predicates : List Predicate) (question : Question) (width : ℕ) (set : List Atom) : Type 0 where
  pub now : IsAskedAt predicates question.now (asked_post predicates question) set
  pub new : ¬ IsAskedAt predicates question.old (asked_post predicates question) set
  pub small : length set ≤ width
