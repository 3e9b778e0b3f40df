-- The table of predicates as a list.
use Rattle.std.specs.Prelude.{◌≡◌, ◌≢◌, ℕ, ◌<◌, ◌≤◌, pos, List, [], Some, length, slice_get}
use Rattle.ps_atom.specs.declared.predicate.Predicate.{Predicate}
use Rattle.ps_atom.specs.declared.predicates.TheConstants.Predicates.{MOST}

-- the predicate `1 <= 0`, which no values satisfy
abbrev pub false_predicate : Predicate
false_predicate = record { arity = 0; row = record { term = record { pairs = []; constant = pos 1 } } }

-- the least number of a predicate
pub record IsNumberOf (list : List Predicate) (predicate : Predicate) (number : ℕ) : Type 0 where
  pub stands : slice_get list number ≡ Some predicate
  pub least : (k : ℕ) → k < number → slice_get list k ≢ Some predicate

-- a list that begins with `1 <= 0` and has no more members than the most
pub record IsTable (list : List Predicate) : Type 0 where
  pub first : slice_get list 0 ≡ Some false_predicate
  pub within : length list ≤ MOST
