-- Rows have no more than one elimination, where the rows of its stages are canonical.
use Rattle.std.proofs.Common.{◌≡◌, ◌≤◌, ◌<◌, ℕ, zero, suc, ℤ, pos, Bool, true, false, IsTrue, List, [], ◌∷◌, All, refl, sym, ap, ap₂, ◌∙◌, subst, arith, ◌≤ℤ◌}
use Rattle.std.proofs.lemmas.Int.{ints}
use Rattle.std.proofs.lemmas.List.Elements.{All-contains, All-head, All-tail}
use Rattle.ps_elim.specs.Combining.{eliminated, width}
use Rattle.ps_elim.specs.Elimination.{HasNoRefutation, IsElimination, IsLeastRefutation, last_set}
use Rattle.ps_elim.specs.Refutation.{HasCanonicalRows}
use Rattle.ps_elim.specs.Stages.{AllPass, AreStages, PassesStage, StopsAtStage, first_set, variables}
use Rattle.ps_elim.specs.Supports.{is_less}
use Rattle.ps_elim.specs.Vectors.{AreSums, constant_under}
use Rattle.ps_elim.specs.declared.answer.Elim.{Elim}
use Rattle.ps_elim.specs.declared.answer.Elim.TheVariants.{Refuted, Stages, Past128, TooWide}
use Rattle.ps_elim.specs.declared.limits.TheConstants.{MOST_VECTORS}
use Rattle.ps_elim.specs.declared.stage.Stage.{Stage}
use Rattle.ps_elim.proofs.Eliminating.{PastAt, WideAt}
use Rattle.ps_elim.proofs.Order.{same_unless_less}
use Rattle.ps_term.specs.Pairs.{IsCanonical, coefficient}
use Rattle.ps_term.specs.declared.row.Row.{Row}
use Rattle.ps_term.specs.declared.var.Var.{Var}
use Rattle.ps_term.proofs.Uniqueness.{same_coefficients}

-- ---- the stage at which an elimination stops
abbrev Refuses : List Row → (List (List ℕ) → Var → Type 0) → Type 0
Refuses rows reason = (vs : List (List ℕ)) (x : Var) → reason vs x → ¬ PassesStage rows vs x

wide_refuses : (rows : List Row) (count : ℕ) → Refuses rows (WideAt rows count)
wide_refuses rows count vs x h p =
    let few : width rows x vs ≤ MOST_VECTORS = p.few in
    let many : MOST_VECTORS < width rows x vs = h.0 in
    omega arith

past_refuses : (rows : List Row) → Refuses rows (PastAt rows)
past_refuses rows vs x h p = h.1 p.fits

-- two reasons to stop have one stage, and hold of one set and one variable
record StopsOnce (f g : List (List ℕ) → Var → Type 0) (n m : ℕ) : Type 0 where
  stage : n ≡ m
  set : List (List ℕ)
  variable : Var
  first : f set variable
  second : g set variable

stops_once : (f g : List (List ℕ) → Var → Type 0) (rows : List Row) → Refuses rows f → Refuses rows g → (vs : List (List ℕ)) (xs : List Var) (n m : ℕ)
    → StopsAtStage f rows vs xs n → StopsAtStage g rows vs xs m → StopsOnce f g n m
stops_once f g rows p q vs [] n m h k = absurd h
stops_once f g rows p q vs (x ∷ xs) zero zero h k = record { stage = refl; set = vs; variable = x; first = h; second = k }
stops_once f g rows p q vs (x ∷ xs) zero (suc m) h k = absurd (p vs x h k.0)
stops_once f g rows p q vs (x ∷ xs) (suc n) zero h k = absurd (q vs x k h.0)
stops_once f g rows p q vs (x ∷ xs) (suc n) (suc m) h k =
    let rest = stops_once f g rows p q (eliminated rows x vs) xs n m h.1 k.1 in
    record { stage = ap suc rest.stage; set = rest.set; variable = rest.variable; first = rest.first; second = rest.second }

never_stops : (f : List (List ℕ) → Var → Type 0) (rows : List Row) → Refuses rows f → (vs : List (List ℕ)) (xs : List Var) (n : ℕ) → AllPass rows vs xs → StopsAtStage f rows vs xs n → ⊥
never_stops f rows p vs [] n a h = h
never_stops f rows p vs (x ∷ xs) zero a h = p vs x h a.0
never_stops f rows p vs (x ∷ xs) (suc n) a h = never_stops f rows p (eliminated rows x vs) xs n a.1 h.1

-- ---- the least refutation
not_true : (b : Bool) → ¬ IsTrue b → b ≡ false
not_true true h = absurd (h refl)
not_true false h = refl

least_once : (rows : List Row) (u v : List ℕ) → IsLeastRefutation rows u → IsLeastRefutation rows v → v ≡ u
least_once rows u v h k =
    same_unless_less v u (not_true (is_less v u) (h.least v k.is_last k.positive)) (not_true (is_less u v) (k.least u h.is_last h.positive))

refuted_or_not : (rows : List Row) (v : List ℕ) → IsLeastRefutation rows v → HasNoRefutation rows → ⊥
refuted_or_not rows v h none =
    let most : constant_under rows v ≤ℤ pos 0 = All-contains (λ u. constant_under rows u ≤ℤ pos 0) (last_set rows) v none h.is_last in
    let least : pos 1 ≤ℤ constant_under rows v = h.positive in
    omega (arith, ints)

-- ---- the stages
abbrev row_of : List (Var × ℤ) → ℤ → Row
row_of pairs constant = record { term = record { pairs = pairs; constant = constant } }

same_row : (r s : Row) → IsCanonical r.term.pairs → IsCanonical s.term.pairs → ((x : Var) → coefficient x r.term.pairs ≡ coefficient x s.term.pairs) → r.term.constant ≡ s.term.constant → r ≡ s
same_row r s c d e f = ap₂ row_of (same_coefficients r.term.pairs s.term.pairs c d e) f

same_rows : (rows : List Row) (vs : List (List ℕ)) (rs ss : List Row) → AreSums rows vs rs → AreSums rows vs ss → All (λ r. IsCanonical r.term.pairs) rs → All (λ r. IsCanonical r.term.pairs) ss → rs ≡ ss
same_rows rows [] [] [] a b c d = refl
same_rows rows [] [] (s ∷ ss) a b c d = absurd b
same_rows rows [] (r ∷ rs) ss a b c d = absurd a
same_rows rows (v ∷ vs) [] ss a b c d = absurd a
same_rows rows (v ∷ vs) (r ∷ rs) [] a b c d = absurd b
same_rows rows (v ∷ vs) (r ∷ rs) (s ∷ ss) a b c d =
    let P : Row → Type 0 = λ q. IsCanonical q.term.pairs in
    ap₂ (λ (q : Row) (qs : List Row). q ∷ qs) (same_row r s (All-head P r rs c) (All-head P s ss d) (λ x. a.0.coefficients x ∙ sym (b.0.coefficients x)) (a.0.constant ∙ sym b.0.constant)) (same_rows rows vs rs ss a.1 b.1 (All-tail P r rs c) (All-tail P s ss d))

abbrev stage_with : Var → List (List ℕ) → List Row → Stage
stage_with x vs rs = record { variable = x; vectors = vs; rows = rs }

same_stage : (s t : Stage) → s.variable ≡ t.variable → s.vectors ≡ t.vectors → s.rows ≡ t.rows → s ≡ t
same_stage s t e f g =
    ap (λ (x : Var). stage_with x s.vectors s.rows) e ∙ (ap (λ (vs : List (List ℕ)). stage_with t.variable vs s.rows) f ∙ ap (λ (rs : List Row). stage_with t.variable t.vectors rs) g)

same_stages : (rows : List Row) (vs : List (List ℕ)) (xs : List Var) (ss ts : List Stage) → AreStages rows vs xs ss → AreStages rows vs xs ts → All (λ s. All (λ r. IsCanonical r.term.pairs) s.rows) ss → All (λ s. All (λ r. IsCanonical r.term.pairs) s.rows) ts → ts ≡ ss
same_stages rows vs [] [] [] a b c d = refl
same_stages rows vs [] [] (t ∷ ts) a b c d = absurd b
same_stages rows vs [] (s ∷ ss) ts a b c d = absurd a
same_stages rows vs (x ∷ xs) [] ts a b c d = absurd a
same_stages rows vs (x ∷ xs) (s ∷ ss) [] a b c d = absurd b
same_stages rows vs (x ∷ xs) (s ∷ ss) (t ∷ ts) a b c d =
    let P : Stage → Type 0 = λ q. All (λ r. IsCanonical r.term.pairs) q.rows in
    let mine : AreSums rows vs s.rows = subst (λ (us : List (List ℕ)). AreSums rows us s.rows) a.1 a.2 in
    let other : AreSums rows vs t.rows = subst (λ (us : List (List ℕ)). AreSums rows us t.rows) b.1 b.2 in
    let rows_are : t.rows ≡ s.rows = same_rows rows vs t.rows s.rows other mine (All-head P t ts d) (All-head P s ss c) in
    ap₂ (λ (q : Stage) (qs : List Stage). q ∷ qs) (same_stage t s (b.0 ∙ sym a.0) (b.1 ∙ sym a.1) rows_are) (same_stages rows (eliminated rows x vs) xs ss ts a.3 b.3 (All-tail P s ss c) (All-tail P t ts d))

-- ---- the answer
same_past : (n m : ℕ) → n ≡ m → let a : Elim = Past128 m in let b : Elim = Past128 n in a ≡ b
same_past n m e = ap (λ (k : ℕ). Past128 k) (sym e)

same_wide : (n m c d : ℕ) → n ≡ m → c ≡ d → let a : Elim = TooWide m d in let b : Elim = TooWide n c in a ≡ b
same_wide n m c d e f = ap₂ (λ (k l : ℕ). TooWide k l) (sym e) (sym f)

pub elimination_once : (rows : List Row) (a b : Elim) → IsElimination rows a → IsElimination rows b → HasCanonicalRows a → HasCanonicalRows b → b ≡ a
elimination_once rows (Refuted u) (Refuted v) h k c d = ap (λ (w : List ℕ). Refuted w) (least_once rows u v h.1 k.1)
elimination_once rows (Refuted u) (Stages ts) h k c d = absurd (refuted_or_not rows u h.1 k.unrefuted)
elimination_once rows (Refuted u) (Past128 m) h k c d =
    absurd (never_stops (PastAt rows) rows (past_refuses rows) (first_set rows) (variables rows) m h.0 k)
elimination_once rows (Refuted u) (TooWide m e) h k c d =
    absurd (never_stops (WideAt rows e) rows (wide_refuses rows e) (first_set rows) (variables rows) m h.0 k)
elimination_once rows (Stages ss) (Refuted v) h k c d = absurd (refuted_or_not rows v k.1 h.unrefuted)
elimination_once rows (Stages ss) (Stages ts) h k c d =
    ap (λ (us : List Stage). Stages us) (same_stages rows (first_set rows) (variables rows) ss ts h.made k.made c d)
elimination_once rows (Stages ss) (Past128 m) h k c d =
    absurd (never_stops (PastAt rows) rows (past_refuses rows) (first_set rows) (variables rows) m h.ends k)
elimination_once rows (Stages ss) (TooWide m e) h k c d =
    absurd (never_stops (WideAt rows e) rows (wide_refuses rows e) (first_set rows) (variables rows) m h.ends k)
elimination_once rows (Past128 n) (Refuted v) h k c d =
    absurd (never_stops (PastAt rows) rows (past_refuses rows) (first_set rows) (variables rows) n k.0 h)
elimination_once rows (Past128 n) (Stages ts) h k c d =
    absurd (never_stops (PastAt rows) rows (past_refuses rows) (first_set rows) (variables rows) n k.ends h)
elimination_once rows (Past128 n) (Past128 m) h k c d =
    same_past n m (stops_once (PastAt rows) (PastAt rows) rows (past_refuses rows) (past_refuses rows) (first_set rows) (variables rows) n m h k).stage
elimination_once rows (Past128 n) (TooWide m e) h k c d =
    let both = stops_once (PastAt rows) (WideAt rows e) rows (past_refuses rows) (wide_refuses rows e) (first_set rows) (variables rows) n m h k in
    absurd (apart (width rows both.variable both.set) both.first.0 both.second.0)
  where
    apart : (w : ℕ) → w ≤ MOST_VECTORS → MOST_VECTORS < w → ⊥
    apart w a b = omega arith
elimination_once rows (TooWide n e) (Refuted v) h k c d =
    absurd (never_stops (WideAt rows e) rows (wide_refuses rows e) (first_set rows) (variables rows) n k.0 h)
elimination_once rows (TooWide n e) (Stages ts) h k c d =
    absurd (never_stops (WideAt rows e) rows (wide_refuses rows e) (first_set rows) (variables rows) n k.ends h)
elimination_once rows (TooWide n e) (Past128 m) h k c d =
    let both = stops_once (WideAt rows e) (PastAt rows) rows (wide_refuses rows e) (past_refuses rows) (first_set rows) (variables rows) n m h k in
    absurd (apart (width rows both.variable both.set) both.second.0 both.first.0)
  where
    apart : (w : ℕ) → w ≤ MOST_VECTORS → MOST_VECTORS < w → ⊥
    apart w a b = omega arith
elimination_once rows (TooWide n e) (TooWide m f) h k c d =
    let both = stops_once (WideAt rows e) (WideAt rows f) rows (wide_refuses rows e) (wide_refuses rows f) (first_set rows) (variables rows) n m h k in
    same_wide n m e f both.stage (both.first.1 ∙ sym both.second.1)
