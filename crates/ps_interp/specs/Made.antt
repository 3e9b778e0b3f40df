-- The predicates and entries of a refuted trace.
use Rattle.std.specs.Prelude.{◌≡◌, ℕ, ◌<◌, ◌≤◌, ◌⊎◌, List, [], ◌∷◌, ◌++◌, map, drop, length, reverse, All, Option, Some, slice_get}
use Rattle.std.specs.List.{AllZip, filter_map}
use Rattle.ps_atom.specs.declared.predicate.Predicate.{Predicate}
use Rattle.ps_atom.specs.declared.predicates.TheConstants.Predicates.{MOST}
use Rattle.ps_command.specs.declared.setting.Setting.{Setting}
use Rattle.ps_interp.specs.Cuts.{AreBounds, IsTrivialSum, cuts_down, sum_at}
use Rattle.ps_interp.specs.Entries.{false_triple, initial_of, triple_of}
use Rattle.ps_interp.specs.Firsts.{AreFirst}
use Rattle.ps_interp.specs.Interpolants.{Interpolant, IsPredicateAt, StandsAt}
use Rattle.ps_interp.specs.Sums.{SumFits, Weighed, weighed}
use Rattle.ps_interp.specs.Weights.{OthersFit, letter_weights}
use Rattle.ps_term.specs.Negation.{NegationFits}
use Rattle.ps_term.specs.declared.term.Term.{Term}
use Rattle.ps_triple.specs.Fits.{EntryFits}
use Rattle.ps_triple.specs.declared.entry.Entry.{Entry}

-- the letters of a trace, weighed by multipliers of all its rows
abbrev pub letters_of : Setting → List (ℕ × ℕ) → List ℕ → List Weighed
letters_of setting trace lambda = weighed setting trace (letter_weights setting trace lambda)

-- the interpolant at a cut with this sum can be made
abbrev pub InterpolantFits : Term → Type 0
InterpolantFits sum = NegationFits (record { term = sum })

-- the entry is the triple of the letter after the cut
pub record IsTripleAt (letters : List Weighed) (list : List Predicate) (cut : ℕ) (entry : Entry) : Type 0 where
  pub letter : Weighed
  pub stands : slice_get letters cut ≡ Some letter
  pub before : Option Interpolant
  pub stands_before : StandsAt list letter.before before
  pub after : Interpolant
  pub stands_after : StandsAt list letter.after (Some after)
  pub is : entry ≡ triple_of letter before after

-- The cuts below one are met in descending order down to another: these are their new predicates, in this order, for which a
-- table has room, and these the triples of the letters after them.
pub record AreMade (setting : Setting) (letters : List Weighed) (known : List Predicate) (high cut : ℕ) (new : List Predicate) (triples : List Entry) : Type 0 where
  pub fit : (i : ℕ) → cut ≤ i → i < high → InterpolantFits (sum_at letters i)
  pub predicates : List (Option Predicate)
  pub each : AllZip (λ i p. IsPredicateAt (sum_at letters i) p) (cuts_down cut high) predicates
  pub first : AreFirst known (filter_map (λ p. p) predicates) new
  pub triples_are : AllZip (IsTripleAt letters (known ++ new)) (cuts_down cut high) triples
  pub triples_fit : All (EntryFits setting (known ++ new)) triples
  pub room : length (known ++ new) ≤ MOST

-- the initial entry that there is where the lowest of these cuts has this sum: none where it is trivial
abbrev pub IsInitialOf : Setting → List (ℕ × ℕ) → List ℕ → List Predicate → Term → List Entry → Type 0
IsInitialOf setting trace lambda list sum initial =
    (IsTrivialSum sum × (initial ≡ []))
    ⊎ ((q : Interpolant) × StandsAt list sum (Some q) × OthersFit setting trace lambda q.atom.threads
    × EntryFits setting list (initial_of setting trace lambda q) × (initial ≡ initial_of setting trace lambda q ∷ []))

-- the triples from false to false of letters, from the last to the first
abbrev pub false_triples : Setting → List (ℕ × ℕ) → List Entry
false_triples setting trace = map (λ (l : ℕ × ℕ). false_triple setting l.1) (reverse trace)

-- The new predicates and the entries of a trace of pairs of a thread and a command, whose rows these multipliers refute, over the
-- predicates that are known: each entry once, the triples from the last letter to the first, and then the initial entry.
pub record IsInterpolation (setting : Setting) (known : List Predicate) (trace : List (ℕ × ℕ)) (lambda : List ℕ) (new : List Predicate) (entries : List Entry) : Type 0 where
  pub sums_fit : All (SumFits setting) (letters_of setting trace lambda)
  pub low : ℕ
  pub high : ℕ
  pub bounds : AreBounds (letters_of setting trace lambda) low high
  pub triples : List Entry
  pub made : AreMade setting (letters_of setting trace lambda) known high low new triples
  pub initial : List Entry
  pub initial_is : IsInitialOf setting trace lambda (known ++ new) (sum_at (letters_of setting trace lambda) low) initial
  pub first : AreFirst [] (false_triples setting (drop high trace) ++ (triples ++ initial)) entries
