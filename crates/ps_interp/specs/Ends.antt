-- Why a refuted trace gives no entries.
use Rattle.std.specs.Prelude.{ℕ, ◌+◌, ◌<◌, ◌≤◌, ◌⊎◌, List, [], ◌∷◌, ◌++◌, length, All, Option, Some}
use Rattle.std.specs.List.{filter_map}
use Rattle.ps_atom.specs.Places.{IsArityOf, IsEndOf}
use Rattle.ps_atom.specs.declared.place.PlaceEnd.TheVariants.{Full}
use Rattle.ps_atom.specs.declared.predicate.Predicate.{Predicate}
use Rattle.ps_atom.specs.declared.predicates.TheConstants.Predicates.{MOST}
use Rattle.ps_command.specs.declared.setting.Setting.{Setting}
use Rattle.ps_interp.specs.Cuts.{AreBounds, sum_at}
use Rattle.ps_interp.specs.Entries.{initial_of}
use Rattle.ps_interp.specs.Firsts.{AreFirst}
use Rattle.ps_interp.specs.Interpolants.{Interpolant, IsPredicateAt, StandsAt, interpolant_row}
use Rattle.ps_interp.specs.Made.{AreMade, InterpolantFits, IsTripleAt, letters_of}
use Rattle.ps_interp.specs.Sums.{SumFits}
use Rattle.ps_interp.specs.Weights.{OthersFit}
use Rattle.ps_interp.specs.declared.interp_end.InterpEnd.{InterpEnd}
use Rattle.ps_interp.specs.declared.interp_end.InterpEnd.TheVariants.{Arity, Predicates, Past128, Memory}
use Rattle.ps_triple.specs.Fits.{EntryFits}
use Rattle.ps_triple.specs.declared.entry.Entry.{Entry}

-- All sums fit, and the cuts below the least false one are met in descending order down to this one, which is still to be met.
pub record IsMetDownTo (setting : Setting) (known : List Predicate) (trace : List (ℕ × ℕ)) (lambda : List ℕ) (cut : ℕ) (new : List Predicate) : Type 0 where
  pub sums_fit : All (SumFits setting) (letters_of setting trace lambda)
  pub low : ℕ
  pub high : ℕ
  pub bounds : AreBounds (letters_of setting trace lambda) low high
  pub above : low ≤ cut
  pub below : cut < high
  pub triples : List Entry
  pub made : AreMade setting (letters_of setting trace lambda) known high (cut + 1) new triples

-- more threads occur in the interpolant at the cut than there may be slots
pub record IsTooWide (setting : Setting) (known : List Predicate) (trace : List (ℕ × ℕ)) (lambda : List ℕ) (cut count : ℕ) : Type 0 where
  pub new : List Predicate
  pub met : IsMetDownTo setting known trace lambda cut new
  pub fits : InterpolantFits (sum_at (letters_of setting trace lambda) cut)
  pub arity : IsArityOf (interpolant_row (sum_at (letters_of setting trace lambda) cut)) count

-- its predicate is new, and there are as many as there may be
pub record IsOneTooMany (setting : Setting) (known : List Predicate) (trace : List (ℕ × ℕ)) (lambda : List ℕ) (cut : ℕ) : Type 0 where
  pub new : List Predicate
  pub met : IsMetDownTo setting known trace lambda cut new
  pub fits : InterpolantFits (sum_at (letters_of setting trace lambda) cut)
  pub full : IsEndOf (known ++ new) (interpolant_row (sum_at (letters_of setting trace lambda) cut)) Full

-- at some cut the interpolant, or then the triple of the letter after it, has a value past 128 bits
pub record IsPastAtCut (setting : Setting) (known : List Predicate) (trace : List (ℕ × ℕ)) (lambda : List ℕ) : Type 0 where
  pub cut : ℕ
  pub new : List Predicate
  pub met : IsMetDownTo setting known trace lambda cut new
  pub past : (¬ InterpolantFits (sum_at (letters_of setting trace lambda) cut))
      ⊎ ((predicate : Option Predicate) × (more : List Predicate) × (entry : Entry)
      × IsPredicateAt (sum_at (letters_of setting trace lambda) cut) predicate
      × AreFirst (known ++ new) (filter_map (λ p. p) (predicate ∷ [])) more
      × (length (known ++ (new ++ more)) ≤ MOST)
      × IsTripleAt (letters_of setting trace lambda) (known ++ (new ++ more)) cut entry
      × (¬ EntryFits setting (known ++ (new ++ more)) entry))

-- all cuts are met, and the initial entry has a value past 128 bits
pub record IsPastAtStart (setting : Setting) (known : List Predicate) (trace : List (ℕ × ℕ)) (lambda : List ℕ) : Type 0 where
  pub sums_fit : All (SumFits setting) (letters_of setting trace lambda)
  pub low : ℕ
  pub high : ℕ
  pub bounds : AreBounds (letters_of setting trace lambda) low high
  pub new : List Predicate
  pub triples : List Entry
  pub made : AreMade setting (letters_of setting trace lambda) known high low new triples
  pub q : Interpolant
  pub stands : StandsAt (known ++ new) (sum_at (letters_of setting trace lambda) low) (Some q)
  pub past : ¬ (OthersFit setting trace lambda q.atom.threads × EntryFits setting (known ++ new) (initial_of setting trace lambda q))

-- the cause of an answer; of want of memory nothing is said
abbrev pub EndsInterpolation : Setting → List Predicate → List (ℕ × ℕ) → List ℕ → InterpEnd → Type 0
EndsInterpolation setting known trace lambda (Arity cut count) = IsTooWide setting known trace lambda cut count
EndsInterpolation setting known trace lambda (Predicates cut) = IsOneTooMany setting known trace lambda cut
EndsInterpolation setting known trace lambda Past128 =
    (¬ All (SumFits setting) (letters_of setting trace lambda))
    ⊎ (IsPastAtCut setting known trace lambda ⊎ IsPastAtStart setting known trace lambda)
EndsInterpolation setting known trace lambda (Memory _) = Unit {0}

-- the end is want of memory
abbrev pub IsMemory : InterpEnd → Type 0
IsMemory (Arity cut count) = ⊥
IsMemory (Predicates cut) = ⊥
IsMemory Past128 = ⊥
IsMemory (Memory _) = Unit {0}
