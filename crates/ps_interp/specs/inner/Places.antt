-- Where the row of an interpolant stands in a table that takes its predicate.
use Rattle.std.specs.Prelude.{◌≡◌, ℕ, ◌++◌, ◌∷◌, [], List, Option, Some, None}
use Rattle.ps_atom.specs.Places.{HasForm, IsEndOf, IsPlaceOf}
use Rattle.ps_atom.specs.declared.atom.Atom.{Atom}
use Rattle.ps_atom.specs.declared.place.Place128.TheVariants.{Known}
use Rattle.ps_atom.specs.declared.place.PlaceEnd.{PlaceEnd}
use Rattle.ps_atom.specs.declared.place.PlaceEnd.TheVariants.{Arity as OfArity, Full as OfFull, Memory as OfMemory}
use Rattle.ps_atom.specs.declared.predicate.Predicate.{Predicate}
use Rattle.ps_interp.specs.Firsts.{AreFirst}
use Rattle.ps_interp.specs.declared.interp_end.InterpEnd.{InterpEnd}
use Rattle.ps_interp.specs.declared.interp_end.InterpEnd.TheVariants.{Arity, Predicates, Memory}
use Rattle.ps_term.specs.declared.row.Row.{Row}

-- the predicate of a row that stands nowhere yet is taken in at the end
pub record IsTakenIn (old : List Predicate) (row : Row) (new : List Predicate) (atom : Atom) : Type 0 where
  pub predicate : Predicate
  pub form : HasForm row predicate atom.threads
  pub more : List Predicate
  pub first : AreFirst old (predicate ∷ []) more
  pub all : new ≡ old ++ more
  pub place : IsPlaceOf new row (Known atom.predicate atom.threads)

-- a row without variables has no atom, and the table stays; another has one, by its number in the new table
abbrev pub IsPlaced : List Predicate → Row → List Predicate → Option Atom → Type 0
IsPlaced old row new None = (row.term.pairs ≡ []) × (new ≡ old)
IsPlaced old row new (Some atom) = IsTakenIn old row new atom

abbrev pub EndsPlacing : List Predicate → Row → PlaceEnd → Type 0
EndsPlacing list row end = IsEndOf list row end

-- the end of a call at a cut where the row of its interpolant has no place
abbrev pub end_at : ℕ → PlaceEnd → InterpEnd
end_at cut (OfArity count) = Arity cut count
end_at cut OfFull = Predicates cut
end_at cut (OfMemory end) = Memory end
