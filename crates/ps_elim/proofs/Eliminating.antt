-- The loop over the variables: what is done, with what is left, is all.
use Rattle.std.proofs.Common.{◌≡◌, ℕ, zero, suc, ◌+◌, ◌^◌, ◌<◌, ◌≤◌, List, [], ◌∷◌, ◌++◌, length, map, All, sym, ap, ◌∙◌, subst, arith}
use Rattle.std.proofs.lemmas.List.{append_assoc, length_push}
use Rattle.std.proofs.lemmas.List.Elements.{All-head, All-tail, All-nil, All-push}
use Rattle.ps_elim.specs.Combining.{AllFit, all_combined, eliminated, negatives, positives, width, zeros}
use Rattle.ps_elim.specs.Elimination.{Ends, IsTooWide, LeavesRange, last_set}
use Rattle.ps_elim.specs.Stages.{AllPass, AreStages, PassesStage, StopsAtStage, first_set, set_after, variables}
use Rattle.ps_elim.specs.Vectors.{AreSums}
use Rattle.ps_elim.specs.inner.Antichains.{IsAntichain}
use Rattle.ps_elim.specs.inner.Weighing.{IsWeighted, vectors_of}
use Rattle.ps_elim.specs.declared.limits.TheConstants.{MOST_VECTORS}
use Rattle.ps_elim.specs.declared.stage.Stage.{Stage}
use Rattle.ps_elim.specs.declared.weighted.Weighted.{Weighted}
use Rattle.ps_elim.proofs.Antichains.{kept_apart, units_apart}
use Rattle.ps_term.specs.declared.row.Row.{Row}
use Rattle.ps_term.specs.declared.var.Var.{Var}

abbrev pub WideAt : List Row → ℕ → List (List ℕ) → Var → Type 0
WideAt rows count vs x = (MOST_VECTORS < width rows x vs) × (count ≡ width rows x vs)

abbrev pub PastAt : List Row → List (List ℕ) → Var → Type 0
PastAt rows vs x = (width rows x vs ≤ MOST_VECTORS) × ¬ AllFit rows x vs

abbrev pub HaveSums : List Row → List Stage → Type 0
HaveSums rows stages = All (λ stage. AreSums rows stage.vectors stage.rows) stages

pub record Eliminating (rows : List Row) (set : List Weighted) (stages : List Stage) (rest : List Var) : Type 0 where
  pub weighted : All (IsWeighted rows) set
  pub few : length set < 2 ^ 32
  pub apart : IsAntichain (vectors_of set)
  pub last : set_after rows (vectors_of set) rest ≡ last_set rows
  pub ends : AllPass rows (vectors_of set) rest → Ends rows
  pub made : (more : List Stage) → AreStages rows (vectors_of set) rest more → AreStages rows (first_set rows) (variables rows) (stages ++ more)
  pub wide : (count n : ℕ) → StopsAtStage (WideAt rows count) rows (vectors_of set) rest n → IsTooWide rows (length stages + n) count
  pub past : (n : ℕ) → StopsAtStage (PastAt rows) rows (vectors_of set) rest n → LeavesRange rows (length stages + n)
  pub sums : HaveSums rows stages

pub Eliminating-start : (rows : List Row) (set : List Weighted) → All (IsWeighted rows) set → vectors_of set ≡ first_set rows → length set < 2 ^ 32 → Eliminating rows set [] (variables rows)
Eliminating-start rows set h e l = record {
  weighted = h;
  few = l;
  apart = subst IsAntichain (sym e) (units_apart (length rows));
  last = ap (λ (vs : List (List ℕ)). set_after rows vs (variables rows)) e;
  ends = λ p. subst (λ (vs : List (List ℕ)). AllPass rows vs (variables rows)) e p;
  made = λ more p. subst (λ (vs : List (List ℕ)). AreStages rows vs (variables rows) more) e p;
  wide = λ count n p. subst (λ (k : ℕ). IsTooWide rows k count) (zero_left n) (subst (λ (vs : List (List ℕ)). StopsAtStage (WideAt rows count) rows vs (variables rows) n) e p);
  past = λ n p. subst (λ (k : ℕ). LeavesRange rows k) (zero_left n) (subst (λ (vs : List (List ℕ)). StopsAtStage (PastAt rows) rows vs (variables rows) n) e p);
  sums = All-nil (λ stage. AreSums rows stage.vectors stage.rows);
}
  where
    zero_left : (n : ℕ) → n ≡ 0 + n
    zero_left n = omega arith

sums_of : (rows : List Row) (ws : List Weighted) → All (IsWeighted rows) ws → AreSums rows (vectors_of ws) (map (λ w. w.row) ws)
sums_of rows [] h = tt
sums_of rows (w ∷ ws) h = ((All-head (IsWeighted rows) w ws h).sum, sums_of rows ws (All-tail (IsWeighted rows) w ws h))

pub Eliminating-step : (rows : List Row) (set next : List Weighted) (stages : List Stage) (x : Var) (rest : List Var) (stage : Stage) → Eliminating rows set stages (x ∷ rest) → PassesStage rows (vectors_of set) x → All (IsWeighted rows) next → vectors_of next ≡ eliminated rows x (vectors_of set) → length next ≤ MOST_VECTORS → stage.variable ≡ x → stage.vectors ≡ vectors_of set → stage.rows ≡ map (λ w. w.row) set → Eliminating rows next (stages ++ stage ∷ []) rest
Eliminating-step rows set next stages x rest stage e p all same few is vs rs =
    let sums_here : AreSums rows stage.vectors stage.rows = subst (λ (us : List (List ℕ)). AreSums rows us stage.rows) (sym vs) (subst (λ (ss : List Row). AreSums rows (vectors_of set) ss) (sym rs) (sums_of rows set e.weighted)) in
    record {
      weighted = all;
      few = omega (arith, few);
      apart = subst IsAntichain (sym same) (kept_apart (zeros rows x (vectors_of set) ++ all_combined rows x (positives rows x (vectors_of set)) (negatives rows x (vectors_of set))));
      last = ap (λ (us : List (List ℕ)). set_after rows us rest) same ∙ e.last;
      ends = λ h. e.ends (p, subst (λ (us : List (List ℕ)). AllPass rows us rest) same h);
      made = λ more h. subst (λ (ss : List Stage). AreStages rows (first_set rows) (variables rows) ss) (sym (append_assoc stages (stage ∷ []) more)) (e.made (stage ∷ more) (is, vs, sums_here, subst (λ (us : List (List ℕ)). AreStages rows us rest more) same h));
      wide = λ count n h. subst (λ (k : ℕ). IsTooWide rows k count) (shifted n) (e.wide count (suc n) (p, subst (λ (us : List (List ℕ)). StopsAtStage (WideAt rows count) rows us rest n) same h));
      past = λ n h. subst (λ (k : ℕ). LeavesRange rows k) (shifted n) (e.past (suc n) (p, subst (λ (us : List (List ℕ)). StopsAtStage (PastAt rows) rows us rest n) same h));
      sums = All-push (λ s. AreSums rows s.vectors s.rows) stages stage e.sums sums_here;
    }
  where
    shifted : (n : ℕ) → length stages + suc n ≡ length (stages ++ stage ∷ []) + n
    shifted n = omega (arith, length_push stages stage)

pub Eliminating-wide : (rows : List Row) (set : List Weighted) (stages : List Stage) (x : Var) (rest : List Var) (number count : ℕ) → Eliminating rows set stages (x ∷ rest) → WideAt rows count (vectors_of set) x → number ≡ length stages → IsTooWide rows number count
Eliminating-wide rows set stages x rest number count e h n =
    subst (λ (k : ℕ). IsTooWide rows k count) (omega (arith, n)) (e.wide count zero h)

pub Eliminating-past : (rows : List Row) (set : List Weighted) (stages : List Stage) (x : Var) (rest : List Var) (number : ℕ) → Eliminating rows set stages (x ∷ rest) → PastAt rows (vectors_of set) x → number ≡ length stages → LeavesRange rows number
Eliminating-past rows set stages x rest number e h n =
    subst (λ (k : ℕ). LeavesRange rows k) (omega (arith, n)) (e.past zero h)
