-- The bounds of one row and of several, and what they leave.
use Rattle.std.proofs.Common.{◌≡◌, ◌↔◌, ℕ, ◌+◌, ◌<◌, ℤ, pos, ◌+ℤ◌, ◌*ℤ◌, ◌≤ℤ◌, ◌<ℤ◌, List, [], length, get_or, take, All, FitsSigned, Option, None, refl, sym, ◌∙◌, subst, arith, get_or-take, length-take}
use Rattle.std.specs.Int.{w128}
use Rattle.std.proofs.lemmas.Int.{ints}
use Rattle.std.proofs.lemmas.List.Elements.{All-more, All-nil}
use Rattle.ps_term.specs.declared.row.Row.{Row}
use Rattle.ps_term.specs.declared.var.Var.{Var}
use Rattle.ps_term.specs.Pairs.{coefficient, pairs_value}
use Rattle.ps_term.specs.Term.{value}
use Rattle.ps_walk.specs.Bounds.{HoldsWith, LowerRowsHold, BoundFits, StageFits, UpperRowsHold}
use Rattle.ps_walk.specs.inner.Findings.{AreBounds, IsAtLeast, IsAtMost, IsChoice, IsFinding, IsRowBound, lower_of, upper_of}
use Rattle.ps_term.specs.Evaluation.{EvaluationFitsFrom}
use Rattle.ps_walk.specs.Values.{with_number, without}
use Rattle.ps_walk.specs.declared.bound.RowBound.{RowBound}
use Rattle.ps_walk.specs.declared.bound.RowBound.TheVariants.{Free, AtLeast, AtMost}
use Rattle.ps_walk.specs.declared.bounds.Bounds.{Bounds}
use Rattle.ps_walk.specs.declared.finding.Finding.{Finding}
use Rattle.ps_walk.specs.declared.finding.Finding.TheVariants.{Value, Nothing, Past128}
use Rattle.ps_walk.proofs.Bounding.{not_both, same_lower, same_upper}
use Rattle.ps_walk.proofs.Summing.{split_value}

-- ---- one row
-- what the other variables and the constant are worth
abbrev pub rest_of : (Var → ℤ) → Var → Row → ℤ
rest_of v x r = pairs_value v (without x r.term.pairs) +ℤ r.term.constant

holds_by : (v : Var → ℤ) (x : Var) (r : Row) (a rest n : ℤ) → a ≡ coefficient x r.term.pairs → rest ≡ rest_of v x r → HoldsWith v x r n ↔ (((a *ℤ n) +ℤ rest) ≤ℤ pos 0)
holds_by v x r a rest n ea er =
    let e : value (with_number x n v) r.term ≡ ((coefficient x r.term.pairs *ℤ n) +ℤ rest_of v x r) = omega (arith, ints, split_value v x n r.term.pairs) in
    let is : value (with_number x n v) r.term ≡ ((a *ℤ n) +ℤ rest) = e ∙ (rw (ea, er) refl) in
    (λ h. subst (λ (z : ℤ). z ≤ℤ pos 0) is h, λ h. subst (λ (z : ℤ). z ≤ℤ pos 0) (sym is) h)

pub upper_at : (v : Var → ℤ) (x : Var) (r : Row) (a rest u : ℤ) → a ≡ coefficient x r.term.pairs → rest ≡ rest_of v x r → ((n : ℤ) → (((a *ℤ n) +ℤ rest) ≤ℤ pos 0) ↔ (n ≤ℤ u)) → (n : ℤ) → HoldsWith v x r n ↔ (n ≤ℤ u)
upper_at v x r a rest u ea er is n =
    let by = holds_by v x r a rest n ea er in
    (λ h. (is n).0 (by.0 h), λ h. by.1 ((is n).1 h))

pub lower_at : (v : Var → ℤ) (x : Var) (r : Row) (a rest l : ℤ) → a ≡ coefficient x r.term.pairs → rest ≡ rest_of v x r → ((n : ℤ) → (((a *ℤ n) +ℤ rest) ≤ℤ pos 0) ↔ (l ≤ℤ n)) → (n : ℤ) → HoldsWith v x r n ↔ (l ≤ℤ n)
lower_at v x r a rest l ea er is n =
    let by = holds_by v x r a rest n ea er in
    (λ h. (is n).0 (by.0 h), λ h. by.1 ((is n).1 h))

pub fits_above : (v : Var → ℤ) (x : Var) (r : Row) (u : ℤ) → EvaluationFitsFrom v (pos 0) (without x r.term.pairs) r.term.constant → FitsSigned w128 u → ((n : ℤ) → HoldsWith v x r n ↔ (n ≤ℤ u)) → BoundFits v x r
fits_above v x r u sum fits is = record {
  sum = sum;
  lower = λ b other. absurd (not_both (HoldsWith v x r) u b is other);
  upper = λ b other. subst (λ (z : ℤ). FitsSigned w128 z) (sym (same_upper (HoldsWith v x r) u b is other)) fits;
}

pub fits_below : (v : Var → ℤ) (x : Var) (r : Row) (l : ℤ) → EvaluationFitsFrom v (pos 0) (without x r.term.pairs) r.term.constant → FitsSigned w128 l → ((n : ℤ) → HoldsWith v x r n ↔ (l ≤ℤ n)) → BoundFits v x r
fits_below v x r l sum fits is = record {
  sum = sum;
  lower = λ b other. subst (λ (z : ℤ). FitsSigned w128 z) (sym (same_lower (HoldsWith v x r) l b is other)) fits;
  upper = λ b other. absurd (not_both (HoldsWith v x r) b l other is);
}

row_lower : (v : Var → ℤ) (x : Var) (r : Row) (by : RowBound) → IsRowBound v x r by → (n : ℤ) → (coefficient x r.term.pairs <ℤ pos 0 → HoldsWith v x r n) ↔ IsAtLeast (lower_of by) n
row_lower v x r Free is n = (λ h. tt, λ h lt. absurd (omega (arith, ints, is, lt)))
row_lower v x r (AtLeast l) is n = (λ h. (is.1 n).0 (h is.0), λ h lt. (is.1 n).1 h)
row_lower v x r (AtMost u) is n = (λ h. tt, λ h lt. absurd (omega (arith, ints, is.0, lt)))

row_upper : (v : Var → ℤ) (x : Var) (r : Row) (by : RowBound) → IsRowBound v x r by → (n : ℤ) → (pos 0 <ℤ coefficient x r.term.pairs → HoldsWith v x r n) ↔ IsAtMost (upper_of by) n
row_upper v x r Free is n = (λ h. tt, λ h lt. absurd (omega (arith, ints, is, lt)))
row_upper v x r (AtLeast l) is n = (λ h. tt, λ h lt. absurd (omega (arith, ints, is.0, lt)))
row_upper v x r (AtMost u) is n = (λ h. (is.1 n).0 (h is.0), λ h lt. (is.1 n).1 h)

-- ---- several rows
pub AreBounds-start : (v : Var → ℤ) (x : Var) (b : Bounds) → b.lower ≡ None → b.upper ≡ None → AreBounds v x [] b
AreBounds-start v x b el eu = record {
  lower = λ n. rw el (λ h. tt, λ h. All-nil (λ r. coefficient x r.term.pairs <ℤ pos 0 → HoldsWith v x r n));
  upper = λ n. rw eu (λ h. tt, λ h. All-nil (λ r. pos 0 <ℤ coefficient x r.term.pairs → HoldsWith v x r n));
}

side_more : (Q : Row → Type 0) (old new by : Type 0) (rows : List Row) (i : ℕ) (r : Row) → i < length rows → r ≡ get_or rows i r → All Q (take i rows) ↔ old → Q r ↔ by → new ↔ (old × by) → All Q (take (i + 1) rows) ↔ new
side_more Q old new by rows i r l is w q n =
    let here : Q r → Q (get_or rows i r) = λ h. subst Q is h in
    let back : Q (get_or rows i r) → Q r = λ h. subst Q (sym is) h in (
      λ h. n.1 (w.0 (λ k d lt. (let below : k < i = omega (arith, length-take i rows) in subst Q (get_or-take (i + 1) rows k d (omega arith) ∙ sym (get_or-take i rows k d below)) (h k d (omega (arith, length-take (i + 1) rows))))), q.0 (back (subst Q (get_or-take (i + 1) rows i r (omega arith)) (h i r (omega (arith, length-take (i + 1) rows)))))),
      λ h. All-more Q rows i r l (w.1 (n.0 h).0) (here (q.1 (n.0 h).1)),
    )

pub AreBounds-step : (v : Var → ℤ) (x : Var) (rows : List Row) (i : ℕ) (r : Row) (old new : Bounds) (by : RowBound) → i < length rows → r ≡ get_or rows i r → AreBounds v x (take i rows) old → IsRowBound v x r by → ((n : ℤ) → IsAtLeast new.lower n ↔ (IsAtLeast old.lower n × IsAtLeast (lower_of by) n)) → ((n : ℤ) → IsAtMost new.upper n ↔ (IsAtMost old.upper n × IsAtMost (upper_of by) n)) → AreBounds v x (take (i + 1) rows) new
AreBounds-step v x rows i r old new by l is w b lower upper = record {
  lower = λ n. side_more (λ s. coefficient x s.term.pairs <ℤ pos 0 → HoldsWith v x s n) (IsAtLeast old.lower n) (IsAtLeast new.lower n) (IsAtLeast (lower_of by) n) rows i r l is (w.lower n) (row_lower v x r by b n) (lower n);
  upper = λ n. side_more (λ s. pos 0 <ℤ coefficient x s.term.pairs → HoldsWith v x s n) (IsAtMost old.upper n) (IsAtMost new.upper n) (IsAtMost (upper_of by) n) rows i r l is (w.upper n) (row_upper v x r by b n) (upper n);
}

-- ---- what they leave
pub finding_by : (v : Var → ℤ) (x : Var) (rows : List Row) (b : Bounds) (f : Finding) → StageFits v x rows → AreBounds v x rows b → IsChoice b f → IsFinding v x rows f
finding_by v x rows b (Value n) fits w c = (
  fits,
  record {
    allows = ((w.lower n).1 c.allows.0, (w.upper n).1 c.allows.1);
    nearest = λ m h. c.nearest m ((w.lower m).0 h.0, (w.upper m).0 h.1);
  },
)
finding_by v x rows b (Nothing l u) fits w c =
    (fits, λ n. subst (λ (o : Option ℤ). LowerRowsHold v x rows n ↔ IsAtLeast o n) c.0 (w.lower n), λ n. subst (λ (o : Option ℤ). UpperRowsHold v x rows n ↔ IsAtMost o n) c.1 (w.upper n), c.2)
finding_by v x rows b Past128 fits w c = absurd c
