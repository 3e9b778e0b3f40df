-- What is found where the cuts are met one after another.
use Rattle.std.specs.Prelude.{◌≡◌, ℕ, ◌+◌, ◌<◌, ◌≤◌, ◌⊎◌, ◌^◌, List, [], ◌∷◌, ◌++◌, All, Option, Some, drop, length, map, reverse, slice_get, option_map}
use Rattle.std.specs.List.{filter_map}
use Rattle.ps_atom.specs.Places.{IsArityOf, IsEndOf}
use Rattle.ps_atom.specs.declared.place.PlaceEnd.TheVariants.{Full}
use Rattle.ps_atom.specs.declared.predicate.Predicate.{Predicate}
use Rattle.ps_atom.specs.declared.predicates.TheConstants.Predicates.{MOST}
use Rattle.ps_command.specs.declared.setting.Setting.{Setting}
use Rattle.ps_interp.specs.Cuts.{AreBounds, sum_at}
use Rattle.ps_interp.specs.Entries.{false_triple, triple_of}
use Rattle.ps_interp.specs.Firsts.{AreFirst}
use Rattle.ps_interp.specs.Interpolants.{Interpolant, IsPredicateAt, StandsAt, interpolant_row}
use Rattle.ps_interp.specs.Made.{AreMade, InterpolantFits, IsInterpolation}
use Rattle.ps_interp.specs.Sums.{Weighed}
use Rattle.ps_interp.specs.declared.cuts.Cuts.{Cuts}
use Rattle.ps_interp.specs.declared.interp_end.InterpEnd.{InterpEnd}
use Rattle.ps_interp.specs.declared.interp_end.InterpEnd.TheVariants.{Arity, Predicates, Past128, Memory}
use Rattle.ps_interp.specs.declared.meeting.Found.{Found}
use Rattle.ps_interp.specs.declared.standing.Standing.{Standing}
use Rattle.ps_interp.specs.declared.weights.WeighedLetter.{WeighedLetter}
use Rattle.ps_interp.specs.inner.Parts.{IsWeighedIn, cut_sums, letters_by}
use Rattle.ps_term.specs.declared.term.Term.{Term}
use Rattle.ps_triple.specs.Faults.{EntryHolds}
use Rattle.ps_triple.specs.declared.entry.Entry.{Entry}

abbrev pub interpolant_of : Standing → Interpolant
interpolant_of s = record { atom = s.atom; divisor = s.divisor }

abbrev pub interpolant_in : Option Standing → Option Interpolant
interpolant_in s = option_map interpolant_of s

-- the letters between the cuts
abbrev pub letters_in : Cuts → List Weighed
letters_in cuts = letters_by cuts.setting.now cuts.letters.items

-- the letters are weighed, the sums are theirs, and the bounds are those of the cuts that are met
pub record AreCuts (cuts : Cuts) : Type 0 where
  pub few : length cuts.letters.items < 2 ^ 32
  pub each : All (IsWeighedIn cuts.setting.now) cuts.letters.items
  pub sums : cuts.sums.items ≡ cut_sums (letters_in cuts)
  pub bounds : AreBounds (letters_in cuts) cuts.low cuts.high
  pub within : cuts.high ≤ length cuts.letters.items

-- the predicate of the interpolant at a cut with this sum is in the new list, which is the old one and what wasn't in it
pub record IsTaken (old : List Predicate) (sum : Term) (new : List Predicate) : Type 0 where
  pub predicate : Option Predicate
  pub is : IsPredicateAt sum predicate
  pub more : List Predicate
  pub first : AreFirst old (filter_map (λ p. p) (predicate ∷ [])) more
  pub all : new ≡ old ++ more

-- the entry is in the new list, which is the old one, and the entry where it wasn't in it
pub record IsListed (old : List Entry) (entry : Entry) (new : List Entry) : Type 0 where
  pub more : List Entry
  pub first : AreFirst old (entry ∷ []) more
  pub all : new ≡ old ++ more

-- why the predicate at a cut isn't taken
abbrev pub EndsTaking : List Predicate → Term → ℕ → InterpEnd → Type 0
EndsTaking list sum cut (Arity at count) = (at ≡ cut) × InterpolantFits sum × IsArityOf (interpolant_row sum) count
EndsTaking list sum cut (Predicates at) = (at ≡ cut) × InterpolantFits sum × IsEndOf list (interpolant_row sum) Full
EndsTaking list sum cut Past128 = ¬ InterpolantFits sum
EndsTaking list sum cut (Memory _) = Unit {0}

-- A cut is met, from what stands at the next one: what stands at it, and what is found.
pub record IsMet (setting : Setting) (letters : List Weighed) (cut : ℕ) (after : Interpolant) (old new : Found) (q : Option Interpolant) : Type 0 where
  pub fits : InterpolantFits (sum_at letters cut)
  pub taken : IsTaken old.table (sum_at letters cut) new.table
  pub room : length new.table ≤ MOST
  pub stands : StandsAt new.table (sum_at letters cut) q
  pub entry : Entry
  pub triple : (w : Weighed) → slice_get letters cut ≡ Some w → entry ≡ triple_of w q after
  pub holds : EntryHolds setting new.table entry
  pub listed : IsListed old.entries entry new.entries

-- a triple of the letter after the cut is made, and doesn't hold
pub record IsUnheld (setting : Setting) (letters : List Weighed) (cut : ℕ) (after : Interpolant) (old : List Predicate) : Type 0 where
  pub fits : InterpolantFits (sum_at letters cut)
  pub new : List Predicate
  pub taken : IsTaken old (sum_at letters cut) new
  pub room : length new ≤ MOST
  pub q : Option Interpolant
  pub stands : StandsAt new (sum_at letters cut) q
  pub entry : Entry
  pub triple : (w : Weighed) → slice_get letters cut ≡ Some w → entry ≡ triple_of w q after
  pub fails : ¬ EntryHolds setting new entry

-- why a cut isn't met
abbrev pub EndsMeeting : Setting → List Weighed → ℕ → Interpolant → List Predicate → InterpEnd → Type 0
EndsMeeting setting letters cut after list (Arity at count) = EndsTaking list (sum_at letters cut) cut (Arity at count)
EndsMeeting setting letters cut after list (Predicates at) = EndsTaking list (sum_at letters cut) cut (Predicates at)
EndsMeeting setting letters cut after list Past128 = (¬ InterpolantFits (sum_at letters cut)) ⊎ IsUnheld setting letters cut after list
EndsMeeting setting letters cut after list (Memory _) = Unit {0}

-- The cuts below one are met down to another: what is found, from the predicates that were known and the entries that stood
-- before, and what stands there.
pub record AreMet (setting : Setting) (letters : List Weighed) (known : List Predicate) (before : List Entry) (high cut : ℕ) (found : Found) (q : Option Interpolant) : Type 0 where
  pub new : List Predicate
  pub table : found.table ≡ known ++ new
  pub triples : List Entry
  pub made : AreMade setting letters known high cut new triples
  pub hold : All (EntryHolds setting (known ++ new)) triples
  pub more : List Entry
  pub first : AreFirst before triples more
  pub entries : found.entries ≡ before ++ more
  pub stands : StandsAt found.table (sum_at letters cut) q

-- why not all of them are met
pub record EndsAtCut (setting : Setting) (letters : List Weighed) (known : List Predicate) (low high : ℕ) (end : InterpEnd) : Type 0 where
  pub cut : ℕ
  pub above : low ≤ cut
  pub below : cut < high
  pub new : List Predicate
  pub triples : List Entry
  pub made : AreMade setting letters known high (cut + 1) new triples
  pub after : Interpolant
  pub stands : StandsAt (known ++ new) (sum_at letters (cut + 1)) (Some after)
  pub ends : EndsMeeting setting letters cut after (known ++ new) end

abbrev pub EndsMeetings : Setting → List Weighed → List Predicate → ℕ → ℕ → InterpEnd → Type 0
EndsMeetings setting letters known low high (Arity at count) = EndsAtCut setting letters known low high (Arity at count)
EndsMeetings setting letters known low high (Predicates at) = EndsAtCut setting letters known low high (Predicates at)
EndsMeetings setting letters known low high Past128 = EndsAtCut setting letters known low high Past128
EndsMeetings setting letters known low high (Memory _) = Unit {0}

-- the triples from false to false of the letters from the least false cut on
abbrev pub falses_in : Cuts → List Entry
falses_in cuts = map (λ (l : WeighedLetter). false_triple cuts.setting.now l.command) (reverse (drop cuts.high cuts.letters.items))

-- the table is the known predicates and new ones, and these and the entries are an interpolation of the trace
pub record IsFound (setting : Setting) (known : List Predicate) (trace : List (ℕ × ℕ)) (lambda : List ℕ) (found : Found) : Type 0 where
  pub new : List Predicate
  pub table : found.table ≡ known ++ new
  pub made : IsInterpolation setting known trace lambda new found.entries
