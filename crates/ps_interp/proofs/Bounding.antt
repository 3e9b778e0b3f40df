-- The letters of a trace, cut: which cuts are met.
use Rattle.std.proofs.Common.{◌≡◌, refl, sym, ap, ◌∙◌, subst, ℕ, ◌+◌, ◌<◌, ◌≤◌, ◌^◌, List, [], ◌∷◌, length, map, inl, inr, ◌⊎◌, All, arith}
use Rattle.std.proofs.lemmas.Bool.{cases_lt}
use Rattle.std.proofs.lemmas.Int.{ints}
use Rattle.std.proofs.lemmas.List.{length-map}
use Rattle.ps_command.specs.declared.setting.Setting.{Setting}
use Rattle.ps_graph.specs.declared.edge.Edge.{Edge}
use Rattle.ps_interp.specs.Cuts.{AreBounds, IsFalseSum, IsTrivialSum, sum_at}
use Rattle.ps_interp.specs.Sums.{Weighed, weighed}
use Rattle.ps_interp.specs.declared.cuts.Cuts.{Cuts}
use Rattle.ps_interp.specs.declared.weights.WeighedLetter.{WeighedLetter}
use Rattle.ps_interp.specs.inner.Meetings.{AreCuts, letters_in}
use Rattle.ps_interp.specs.inner.Parts.{IsWeighedIn, cut_sums, letters_by, part_in, part_of, sum_in, weighed_by}
use Rattle.ps_soundness.specs.Traces.{trace_of}
use Rattle.ps_term.specs.declared.term.Term.{Term}
use Rattle.ps_trace.specs.Traces.{letter_pair, pairs_in}
use Rattle.ps_trace.specs.declared.trace.Letter.{Letter}
use Rattle.ps_interp.proofs.Letters.{letter_there}
use Rattle.ps_interp.proofs.Parting.{by_long, same_weighed, sums_at, sums_long}

-- ---- letters with the parts of a trace's
pub letters_are : (setting : Setting) (trace : List (ℕ × ℕ)) (ws : List ℕ) (list : List WeighedLetter) → map part_of list ≡ map part_in (weighed setting trace ws) → letters_by setting list ≡ weighed setting trace ws
letters_are setting trace ws list e = ap (weighed_by setting) e ∙ same_weighed setting trace ws

pub by_letters_long : (setting : Setting) (list : List WeighedLetter) → length (letters_by setting list) ≡ length list
by_letters_long setting list = by_long setting (map part_of list) ∙ length-map list part_of

parts_long : (setting : Setting) (edges : List Edge) (letters : List Letter) (ws : List ℕ) (list : List WeighedLetter) →
    map part_of list ≡ map part_in (weighed setting (trace_of edges (pairs_in letters)) ws) → length list ≡ length letters
parts_long setting edges letters ws list e =
    sym (by_letters_long setting list)
    ∙ (ap length (letters_are setting (trace_of edges (pairs_in letters)) ws list e)
    ∙ (letter_there setting (trace_of edges (pairs_in letters)) ws
    ∙ (length-map (pairs_in letters) _ ∙ length-map letters letter_pair)))

-- ---- the bounds
last_false : (letters : List Weighed) → IsFalseSum (sum_at letters (length letters))
last_false [] = (refl, omega (arith, ints))
last_false (w ∷ ws) = last_false ws

module _ (letters : List Weighed) (sums : List Term) (are : sums ≡ cut_sums letters) where
  pub sums_same : (cut : ℕ) → sum_in sums cut ≡ sum_at letters cut
  sums_same cut = ap (λ (ts : List Term). sum_in ts cut) are ∙ sums_at letters cut

  pub sums_many : length sums ≡ length letters + 1
  sums_many = ap length are ∙ sums_long letters

  module _ (low high : ℕ) (within : high ≤ length sums) (least : (cut : ℕ) → cut < high → ¬ IsFalseSum (sum_in sums cut))
      (is : high < length sums → IsFalseSum (sum_in sums high)) where
    pub high_within : high ≤ length letters
    high_within = elim (cases_lt (length letters) high) [
      | inl past ↦ absurd (least (length letters) past (subst IsFalseSum (sym (sums_same (length letters))) (last_false letters)))
      | inr below ↦ below
    ]

    pub bounds_are : (low ≡ 0) ⊎ ((low < high) × IsTrivialSum (sum_in sums low)) → ((cut : ℕ) → low < cut → cut < high → ¬ IsTrivialSum (sum_in sums cut)) → AreBounds letters low high
    bounds_are starts greatest = record {
      within = elim starts [ inl zero_is ↦ omega (arith, zero_is) | inr trivial ↦ omega (arith, trivial.0) ];
      ends = subst IsFalseSum (sums_same high) (is (let h : high ≤ length letters = high_within in omega (arith, h, sums_many)));
      least = λ cut below f. least cut below (subst IsFalseSum (sym (sums_same cut)) f);
      starts = elim starts [ inl zero_is ↦ inl zero_is | inr trivial ↦ inr (trivial.0, subst IsTrivialSum (sums_same low) trivial.1) ];
      greatest = λ cut above below t. greatest cut above below (subst IsTrivialSum (sym (sums_same cut)) t);
    }

pub cuts_are : (cuts : Cuts) (setting : Setting) (edges : List Edge) (letters : List Letter) (ws : List ℕ) → cuts.setting.now ≡ setting → length letters < 2 ^ 32 →
    map part_of cuts.letters.items ≡ map part_in (weighed setting (trace_of edges (pairs_in letters)) ws) → All (IsWeighedIn setting) cuts.letters.items →
    cuts.sums.items ≡ cut_sums (letters_by setting cuts.letters.items) →
    cuts.high ≤ length cuts.sums.items → ((cut : ℕ) → cut < cuts.high → ¬ IsFalseSum (sum_in cuts.sums.items cut)) → (cuts.high < length cuts.sums.items → IsFalseSum (sum_in cuts.sums.items cuts.high)) →
    (cuts.low ≡ 0) ⊎ ((cuts.low < cuts.high) × IsTrivialSum (sum_in cuts.sums.items cuts.low)) → ((cut : ℕ) → cuts.low < cut → cut < cuts.high → ¬ IsTrivialSum (sum_in cuts.sums.items cut)) → AreCuts cuts
cuts_are cuts setting edges letters ws same few parts each sums within least is starts greatest = record {
  few = subst (λ (n : ℕ). n < 2 ^ 32) (sym (parts_long setting edges letters ws cuts.letters.items parts)) few;
  each = subst (λ (s : Setting). All (IsWeighedIn s) cuts.letters.items) (sym same) each;
  sums = sums_are;
  bounds = bounds_are (letters_in cuts) cuts.sums.items sums_are cuts.low cuts.high within least is starts greatest;
  within = subst (λ (n : ℕ). cuts.high ≤ n) (by_letters_long cuts.setting.now cuts.letters.items) (high_within (letters_in cuts) cuts.sums.items sums_are cuts.low cuts.high within least is);
}
  where
    sums_are : cuts.sums.items ≡ cut_sums (letters_in cuts)
    sums_are = subst (λ (s : Setting). cuts.sums.items ≡ cut_sums (letters_by s cuts.letters.items)) (sym same) sums
