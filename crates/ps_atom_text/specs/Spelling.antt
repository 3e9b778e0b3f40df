-- How predicates, atoms, entries and configurations are spelled, and which ones have a spelling.
use Rattle.std.specs.Prelude.{ℕ, ◌<◌, ◌≤◌, ◌^◌, List, [], ◌∷◌, ◌++◌, map, length, decimal, codes}
use Rattle.std.specs.List.{flat_map, AllByRecursion}
use Rattle.ps_atom.specs.declared.atom.Atom.{Atom}
use Rattle.ps_atom.specs.declared.predicate.Predicate.{Predicate}
use Rattle.ps_atom_text.specs.declared.limits.TheConstants.{ANY_THREAD, MOST_BEFORE, MOST_THREAD}
use Rattle.ps_config.specs.Configurations.{Configuration}
use Rattle.ps_config.specs.Forms.{IsConfig}
use Rattle.ps_term_text.specs.Spelling.{term_fields, TermHasSpelling}
use Rattle.ps_triple.specs.declared.entry.Entry.{Entry}
use Rattle.ps_triple.specs.declared.entry.Entry.TheVariants.{Triple as OfTriple, Initial as OfInitial}
use Rattle.ps_triple.specs.declared.initial.Initial.{Initial}
use Rattle.ps_triple.specs.declared.triple.Triple.{Triple}

-- ---- texts

-- `:` before the first thread, `,` before each further one.
abbrev pub threads_text : List ℕ → List ℕ
threads_text [] = []
threads_text (t ∷ ts) = 58 ∷ (decimal t ++ flat_map (λ u. 44 ∷ decimal u) ts)

-- An atom is `P`, or `P:T,T` with its threads.
abbrev pub atom_text : Atom → List ℕ
atom_text q = decimal q.predicate ++ threads_text q.threads

-- A thread at a location is `T:L`.
abbrev pub place_text : ℕ × ℕ → List ℕ
place_text p = decimal p.0 ++ 58 ∷ decimal p.1

-- A line `pred` with the arity and the term.
abbrev pub predicate_line : Predicate → List ℕ × List (List ℕ)
predicate_line p = (codes "pred", decimal p.arity ∷ term_fields p.row.term)

-- The word `by` and multipliers.
abbrev pub lambda_fields : List ℕ → List (List ℕ)
lambda_fields lambda = codes "by" ∷ map decimal lambda

-- A line `init` with the predicate and the multipliers.
abbrev pub initial_line : Initial → List ℕ × List (List ℕ)
initial_line i = (codes "init", decimal i.predicate ∷ lambda_fields i.lambda)

-- A line `triple` with the command, the atom after, the atoms before, and the multipliers.
abbrev pub triple_line : Triple → List ℕ × List (List ℕ)
triple_line t =
    (codes "triple", decimal t.command ∷ codes "post" ∷ atom_text t.post ∷ codes "pre" ∷ (map atom_text t.pre ++ lambda_fields t.lambda))

-- The line of an entry.
abbrev pub entry_line : Entry → List ℕ × List (List ℕ)
entry_line (OfTriple t) = triple_line t
entry_line (OfInitial i) = initial_line i

-- `at` and the threads with their locations, `has` and the atoms.
abbrev pub config_fields : Configuration → List (List ℕ)
config_fields c = codes "at" ∷ (map place_text c.at ++ codes "has" ∷ map atom_text c.atoms)

-- A line `config` with a configuration.
abbrev pub config_line : Configuration → List ℕ × List (List ℕ)
config_line c = (codes "config", config_fields c)

-- ---- which ones have a spelling

-- The predicate's number is of 32 bits, and no thread's is above this one.
pub record AtomHasSpelling (most : ℕ) (q : Atom) : Type 0 where
  pub predicate : q.predicate < 2 ^ 32
  pub threads : AllByRecursion (λ t. t ≤ most) q.threads

-- The arity is of 32 bits, and the term has a spelling.
pub record PredicateHasSpelling (p : Predicate) : Type 0 where
  pub arity : p.arity < 2 ^ 32
  pub term : TermHasSpelling p.row.term

-- Multipliers are of 128 bits.
abbrev pub LambdaHasSpelling : List ℕ → Type 0
LambdaHasSpelling lambda = AllByRecursion (λ n. n < 2 ^ 128) lambda

pub record InitialHasSpelling (i : Initial) : Type 0 where
  pub predicate : i.predicate < 2 ^ 32
  pub lambda : LambdaHasSpelling i.lambda

-- Few atoms stand before the command. They ascend, as those of each triple do.
pub record TripleHasSpelling (t : Triple) : Type 0 where
  pub command : t.command < 2 ^ 32
  pub post : AtomHasSpelling ANY_THREAD t.post
  pub few : length t.pre ≤ MOST_BEFORE
  pub pre : AllByRecursion (AtomHasSpelling ANY_THREAD) t.pre
  pub lambda : LambdaHasSpelling t.lambda

abbrev pub EntryHasSpelling : Entry → Type 0
EntryHasSpelling (OfTriple t) = TripleHasSpelling t
EntryHasSpelling (OfInitial i) = InitialHasSpelling i

-- The thread's number is one of a configuration, and the location's is of 32 bits.
pub record PlaceHasSpelling (p : ℕ × ℕ) : Type 0 where
  pub thread : p.0 ≤ MOST_THREAD
  pub location : p.1 < 2 ^ 32

-- It is in form, and no number is too high.
pub record ConfigHasSpelling (c : Configuration) : Type 0 where
  pub form : IsConfig c
  pub at : AllByRecursion PlaceHasSpelling c.at
  pub atoms : AllByRecursion (AtomHasSpelling MOST_THREAD) c.atoms
