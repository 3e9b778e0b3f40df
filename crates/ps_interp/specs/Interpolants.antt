-- The interpolants at cuts, their predicates and their divisors.
use Rattle.std.specs.Prelude.{◌≡◌, ℕ, ◌⊎◌, List, Option, Some, None}
use Rattle.ps_atom.specs.Places.{HasForm, IsPlaceOf}
use Rattle.ps_atom.specs.declared.atom.Atom.{Atom}
use Rattle.ps_atom.specs.declared.place.Place128.TheVariants.{Known}
use Rattle.ps_atom.specs.declared.predicate.Predicate.{Predicate}
use Rattle.ps_interp.specs.Cuts.{IsFalseSum, IsTrivialSum}
use Rattle.ps_term.specs.Pairs.{IsCanonical}
use Rattle.ps_term.specs.Tightened.{IsTightened}
use Rattle.ps_term.specs.declared.row.Row.{Row}
use Rattle.ps_term.specs.declared.term.Term.{Term}
use Rattle.ps_triple.specs.Entries.{false_atom}
use Rattle.ps_triple.specs.Rows.{negated}

-- the interpolant at a cut with this sum: the row `1 - sum <= 0`
abbrev pub interpolant_row : Term → Row
interpolant_row sum = negated (record { term = sum })

-- the row, tightened, is divided by this number
pub record HasDivisor (row : Row) (divisor : ℕ) : Type 0 where
  pub tight : Row
  pub canonical : IsCanonical tight.term.pairs
  pub tightened : IsTightened row tight
  pub is : divisor ≡ tightened.factor

-- An interpolant as an atom of the trace's threads, with its divisor, by which it is weighed.
pub record Interpolant : Type 0 where
  pub atom : Atom
  pub divisor : ℕ

-- that of a false cut, which has the weight 0
abbrev pub false_interpolant : Interpolant
false_interpolant = record { atom = false_atom; divisor = 0 }

-- what stands at a cut with this sum, its predicate having its number in the list: nothing at a trivial cut
abbrev pub StandsAt : List Predicate → Term → Option Interpolant → Type 0
StandsAt list sum None = IsTrivialSum sum
StandsAt list sum (Some q) =
    (IsFalseSum sum × (q ≡ false_interpolant))
    ⊎ (IsPlaceOf list (interpolant_row sum) (Known q.atom.predicate q.atom.threads) × HasDivisor (interpolant_row sum) q.divisor)

-- the predicate of the interpolant at a cut with this sum; a trivial one has none
abbrev pub IsPredicateAt : Term → Option Predicate → Type 0
IsPredicateAt sum None = IsTrivialSum sum
IsPredicateAt sum (Some predicate) = (threads : List ℕ) × HasForm (interpolant_row sum) predicate threads
