-- The canonical predicate of a row.
use Rattle.std.specs.Prelude.{◌≡◌, ℕ, ◌<◌, ◌≤◌, ℤ, pos, List, length, slice_index}
use Rattle.std.specs.List.{range_with_len}
use Rattle.ps_term.specs.Pairs.{coefficient, IsCanonical}
use Rattle.ps_term.specs.Tightened.{IsTightened}
use Rattle.ps_term.specs.declared.row.Row.{Row}
use Rattle.ps_term.specs.declared.var.Var.{Var}
use Rattle.ps_term.specs.declared.var.Var.TheVariants.{Global, Local, Havoc}
use Rattle.ps_atom.specs.declared.predicate.Predicate.{Predicate}
use Rattle.ps_atom.specs.Threads.{AreSlots}

-- the coefficients with slots put for threads: those of a slot are its thread's, those of globals and havocs stay
pub record HasSlots (old : List (Var × ℤ)) (threads : List ℕ) (new : List (Var × ℤ)) : Type 0 where
  pub slots : (slot n : ℕ) → slot < length threads → coefficient (Local slot n) new ≡ coefficient (Local (slice_index threads slot) n) old
  pub beyond : (slot n : ℕ) → length threads ≤ slot → coefficient (Local slot n) new ≡ pos 0
  pub globals : (n : ℕ) → coefficient (Global n) new ≡ coefficient (Global n) old
  pub havocs : (n : ℕ) → coefficient (Havoc n) new ≡ coefficient (Havoc n) old

-- the predicate is the row with slots put for its threads in their order
pub record IsInSlots (row : Row) (predicate : Predicate) (threads : List ℕ) : Type 0 where
  pub in_order : AreSlots row.term.pairs threads
  pub arity : predicate.arity ≡ length threads
  pub coefficients : HasSlots row.term.pairs threads predicate.row.term.pairs
  pub constant : predicate.row.term.constant ≡ row.term.constant
  pub canonical : IsCanonical predicate.row.term.pairs

-- the predicate is the canonical one of a row with variables: that of the tightened row
pub record IsCanonicalOf (row : Row) (predicate : Predicate) (threads : List ℕ) : Type 0 where
  pub tight : Row
  pub tightened : IsTightened row tight
  pub canonical : IsCanonical tight.term.pairs
  pub in_slots : IsInSlots tight predicate threads

-- a predicate that is the canonical one of its own row, with its slots in order
abbrev pub IsCanonicalPredicate : Predicate → Type 0
IsCanonicalPredicate predicate = IsCanonicalOf predicate.row predicate (range_with_len 0 predicate.arity)
