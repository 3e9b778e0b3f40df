-- A trace has one interpolation: its bounds, what stands at its cuts, its new predicates and its entries are determined.
use Rattle.std.proofs.Common.{◌≡◌, refl, sym, ap, ◌∙◌, subst, ℕ, ◌<◌, ◌≤◌, List, [], ◌∷◌, ◌++◌, drop, inl, inr, ◌⊎◌, arith}
use Rattle.std.specs.Prelude.{Option, Some, None}
use Rattle.std.specs.List.{AllZip, filter_map}
use Rattle.std.proofs.lemmas.Bool.{cases_lt}
use Rattle.std.proofs.lemmas.Option.{same_Some}
use Rattle.ps_atom.specs.declared.predicate.Predicate.{Predicate}
use Rattle.ps_atom.proofs.Facts.{one_form}
use Rattle.ps_atom.proofs.Tightness.{divides_scaled, same_factor}
use Rattle.ps_command.specs.declared.setting.Setting.{Setting}
use Rattle.ps_interp.specs.Cuts.{AreBounds, cuts_down, sum_at}
use Rattle.ps_interp.specs.Entries.{initial_of, triple_of}
use Rattle.ps_interp.specs.Firsts.{AreFirst}
use Rattle.ps_interp.specs.Interpolants.{HasDivisor, Interpolant, IsPredicateAt, StandsAt, interpolant_row}
use Rattle.ps_interp.specs.Made.{AreMade, IsInitialOf, IsInterpolation, IsTripleAt, false_triples, letters_of}
use Rattle.ps_interp.specs.Sums.{Weighed}
use Rattle.ps_term.specs.Pairs.{coefficient}
use Rattle.ps_term.specs.declared.row.Row.{Row}
use Rattle.ps_term.specs.declared.term.Term.{Term}
use Rattle.ps_triple.specs.declared.entry.Entry.{Entry}
use Rattle.ps_interp.proofs.Firsts.{same_first}
use Rattle.ps_interp.proofs.Slots.{no_form, nothing_stands, stands_once}
use Rattle.ps_interp.proofs.Zipped.{same_zip}

-- ---- bounds
pub same_high : (letters : List Weighed) (low high other last : ℕ) → AreBounds letters low high → AreBounds letters other last → high ≡ last
same_high letters low high other last a b = at (cases_lt high last) (cases_lt last high)
  where
    at : (high < last) ⊎ (last ≤ high) → (last < high) ⊎ (high ≤ last) → high ≡ last
    at (inl h) k = absurd (b.least high h a.ends)
    at (inr h) (inl k) = absurd (a.least last k b.ends)
    at (inr h) (inr k) = omega (arith, h, k)

not_lower : (letters : List Weighed) (low other high : ℕ) → AreBounds letters low high → AreBounds letters other high → low < other → ⊥
not_lower letters low other high a b h = elim b.starts [
  | inl zero ↦ (let no : ⊥ = omega (arith, h, zero) in no)
  | inr some ↦ a.greatest other h some.0 some.1
]

pub same_low : (letters : List Weighed) (low other high : ℕ) → AreBounds letters low high → AreBounds letters other high → low ≡ other
same_low letters low other high a b = at (cases_lt low other) (cases_lt other low)
  where
    at : (low < other) ⊎ (other ≤ low) → (other < low) ⊎ (low ≤ other) → low ≡ other
    at (inl h) k = absurd (not_lower letters low other high a b h)
    at (inr h) (inl k) = absurd (not_lower letters other low high b a k)
    at (inr h) (inr k) = omega (arith, h, k)

-- ---- what stands at a cut
pub same_predicate : (sum : Term) (p q : Option Predicate) → IsPredicateAt sum p → IsPredicateAt sum q → p ≡ q
same_predicate sum None None h k = refl
same_predicate sum None (Some q) h k = absurd (no_form sum h.0 k.1.0)
same_predicate sum (Some p) None h k = absurd (no_form sum k.0 h.1.0)
same_predicate sum (Some p) (Some q) h k = ap (λ (r : Predicate). Some r) (one_form (interpolant_row sum) p q h.0 k.0 h.1.2 k.1.2).0

same_divisor : (row : Row) (m n : ℕ) → HasDivisor row m → HasDivisor row n → m ≡ n
same_divisor row m n h k = h.is ∙ (factors ∙ sym k.is)
  where
    factors : h.tightened.factor ≡ k.tightened.factor
    factors = same_factor h.tight.term.pairs k.tight.term.pairs h.tightened.factor k.tightened.factor h.tightened.coprime k.tightened.coprime
        (divides_scaled k.tightened.factor h.tightened.factor h.tight.term.pairs h.canonical (λ x n. (coefficient x k.tight.term.pairs, sym (k.tightened.coefficients x) ∙ h.tightened.coefficients x)))
        (divides_scaled h.tightened.factor k.tightened.factor k.tight.term.pairs k.canonical (λ x n. (coefficient x h.tight.term.pairs, sym (h.tightened.coefficients x) ∙ k.tightened.coefficients x)))

same_weight : (list : List Predicate) (sum : Term) (q r : Interpolant) → StandsAt list sum (Some q) → StandsAt list sum (Some r) → q.divisor ≡ r.divisor
same_weight list sum q r (inl h) (inl k) = ap (λ (x : Interpolant). x.divisor) (h.1 ∙ sym k.1)
same_weight list sum q r (inl h) (inr k) = absurd (no_form sum h.0.0 k.0.1.0)
same_weight list sum q r (inr h) (inl k) = absurd (no_form sum k.0.0 h.0.1.0)
same_weight list sum q r (inr h) (inr k) = same_divisor (interpolant_row sum) q.divisor r.divisor h.1 k.1

pub same_interpolant : (list : List Predicate) (sum : Term) (q r : Interpolant) → StandsAt list sum (Some q) → StandsAt list sum (Some r) → q ≡ r
same_interpolant list sum q r h k = λ i. record { atom = stands_once list sum q r h k i; divisor = same_weight list sum q r h k i }

same_standing : (list : List Predicate) (sum : Term) (q r : Option Interpolant) → StandsAt list sum q → StandsAt list sum r → q ≡ r
same_standing list sum None None h k = refl
same_standing list sum None (Some r) h k = absurd (nothing_stands list sum r h k)
same_standing list sum (Some q) None h k = absurd (nothing_stands list sum q k h)
same_standing list sum (Some q) (Some r) h k = ap (λ (x : Interpolant). Some x) (same_interpolant list sum q r h k)

-- ---- entries
pub same_triple_at : (letters : List Weighed) (list : List Predicate) (cut : ℕ) (d e : Entry) → IsTripleAt letters list cut d → IsTripleAt letters list cut e → d ≡ e
same_triple_at letters list cut d e h k = h.is ∙ ((λ i. triple_of (letter i) (before i) (after i)) ∙ sym k.is)
  where
    letter : h.letter ≡ k.letter
    letter = same_Some h.letter k.letter (sym h.stands ∙ k.stands)

    before : h.before ≡ k.before
    before = same_standing list k.letter.before h.before k.before (subst (λ (w : Weighed). StandsAt list w.before h.before) letter h.stands_before) k.stands_before

    after : h.after ≡ k.after
    after = same_interpolant list k.letter.after h.after k.after (subst (λ (w : Weighed). StandsAt list w.after (Some h.after)) letter h.stands_after) k.stands_after

module _ (setting : Setting) (trace : List (ℕ × ℕ)) (lambda : List ℕ) where
  same_initial : (list : List Predicate) (sum : Term) (one other : List Entry) → IsInitialOf setting trace lambda list sum one → IsInitialOf setting trace lambda list sum other → one ≡ other
  same_initial list sum one other (inl h) (inl k) = h.1 ∙ sym k.1
  same_initial list sum one other (inl h) (inr k) = absurd (nothing_stands list sum k.0 h.0 k.1)
  same_initial list sum one other (inr h) (inl k) = absurd (nothing_stands list sum h.0 k.0 h.1)
  same_initial list sum one other (inr h) (inr k) =
      h.4 ∙ (ap (λ (q : Interpolant). initial_of setting trace lambda q ∷ []) (same_interpolant list sum h.0 k.0 h.1 k.1) ∙ sym k.4)

  -- ---- the whole
  module _ (known new more : List Predicate) (entries others : List Entry)
      (h : IsInterpolation setting known trace lambda new entries) (k : IsInterpolation setting known trace lambda more others) where
    abbrev letters : List Weighed
    letters = letters_of setting trace lambda

    high_is : k.high ≡ h.high
    high_is = same_high letters k.low k.high h.low h.high k.bounds h.bounds

    low_is : k.low ≡ h.low
    low_is = same_low letters k.low h.low h.high (subst (λ (n : ℕ). AreBounds letters k.low n) high_is k.bounds) h.bounds

    made_there : AreMade setting letters known h.high h.low more k.triples
    made_there = subst (λ (n : ℕ). AreMade setting letters known n h.low more k.triples) high_is (subst (λ (n : ℕ). AreMade setting letters known k.high n more k.triples) low_is k.made)

    pub new_is : new ≡ more
    new_is = same_first known (filter_map (λ p. p) h.made.predicates) new more h.made.first
        (subst (λ (ps : List (Option Predicate)). AreFirst known (filter_map (λ p. p) ps) more)
        (same_zip (λ i p. IsPredicateAt (sum_at letters i) p) (λ i p q. same_predicate (sum_at letters i) p q) (cuts_down h.low h.high) made_there.predicates h.made.predicates made_there.each h.made.each) made_there.first)

    triples_are : k.triples ≡ h.triples
    triples_are = same_zip (IsTripleAt letters (known ++ new)) (same_triple_at letters (known ++ new)) (cuts_down h.low h.high) k.triples h.triples
        (subst (λ (ps : List Predicate). AllZip (IsTripleAt letters (known ++ ps)) (cuts_down h.low h.high) k.triples) (sym new_is) made_there.triples_are) h.made.triples_are

    initial_is : k.initial ≡ h.initial
    initial_is = same_initial (known ++ new) (sum_at letters h.low) k.initial h.initial
        (subst (λ (ps : List Predicate). IsInitialOf setting trace lambda (known ++ ps) (sum_at letters h.low) k.initial) (sym new_is)
        (subst (λ (n : ℕ). IsInitialOf setting trace lambda (known ++ more) (sum_at letters n) k.initial) low_is k.initial_is)) h.initial_is

    abbrev listed : ℕ → List Entry → List Entry → List Entry
    listed high triples initial = false_triples setting (drop high trace) ++ (triples ++ initial)

    pub entries_are : entries ≡ others
    entries_are = same_first [] (listed h.high h.triples h.initial) entries others h.first
        (subst (λ (es : List Entry). AreFirst [] es others) (λ i. listed (high_is i) (triples_are i) (initial_is i)) k.first)
