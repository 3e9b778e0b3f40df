-- What the entries of a list give: triples with their threads renamed, and predicates that hold initially.
use Rattle.std.specs.Prelude.{◌≡◌, ℕ, List, [], ◌∷◌, ◌++◌, map, Contains}
use Rattle.ps_atom.specs.Atoms.{renamed, IsInjectiveOn, threads_of}
use Rattle.ps_atom.specs.declared.atom.Atom.{Atom}
use Rattle.ps_triple.specs.declared.entry.Entry.{Entry}
use Rattle.ps_triple.specs.declared.entry.Entry.TheVariants.{Triple as OfTriple, Initial as OfInitial}
use Rattle.ps_triple.specs.declared.initial.Initial.{Initial}
use Rattle.ps_triple.specs.declared.triple.Triple.{Triple}

-- the threads of a triple: thread 0, which runs the command, and those of its atoms
abbrev pub threads_in : Triple → List ℕ
threads_in t = 0 ∷ (t.post.threads ++ threads_of t.pre)

-- the triple with its threads renamed has these atoms before, this thread as the one that runs the command, and this
-- atom after
pub record IsRenamed (triple : Triple) (thread : ℕ) (before : List Atom) (after : Atom) : Type 0 where
  pub new : ℕ → ℕ
  pub apart : IsInjectiveOn new (threads_in triple)
  pub runs : new 0 ≡ thread
  pub pre : before ≡ map (renamed new) triple.pre
  pub post : after ≡ renamed new triple.post

-- some listed triple is, renamed, this one
pub record GivesAtom (entries : List Entry) (thread command : ℕ) (before : List Atom) (after : Atom) : Type 0 where
  pub triple : Triple
  pub listed : Contains entries (OfTriple triple)
  pub same : triple.command ≡ command
  pub by : IsRenamed triple thread before after

-- the predicate has an initial entry
abbrev pub HasInitial : List Entry → ℕ → Type 0
HasInitial entries predicate = (i : Initial) × Contains entries (OfInitial i) × (i.predicate ≡ predicate)

-- two triples of one pre, command and post, or two initial entries of one predicate
abbrev pub AreAlike : Entry → Entry → Type 0
AreAlike (OfTriple s) (OfTriple t) = (s.pre ≡ t.pre) × (s.command ≡ t.command) × (s.post ≡ t.post)
AreAlike (OfInitial i) (OfInitial j) = i.predicate ≡ j.predicate
AreAlike (OfTriple s) (OfInitial j) = ⊥
AreAlike (OfInitial i) (OfTriple t) = ⊥

-- the atom that holds nowhere: that of predicate 0
abbrev pub false_atom : Atom
false_atom = record { predicate = 0; threads = [] }
