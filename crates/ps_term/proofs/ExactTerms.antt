-- Exact terms are canonical, are worth what they say, and are the only ones.
use Rattle.std.proofs.Common.{◌≡◌, Bool, true, false, refl, sym, ◌∙◌, ap, ap₂, subst, ℤ, pos, ◌+ℤ◌, ◌*ℤ◌, List, [], ◌∷◌, if◌then◌else◌, arith}
use Rattle.std.specs.Ordering.{int_eq}
use Rattle.std.proofs.lemmas.Int.{ints}
use Rattle.ps_term.proofs.Ring.{distribute, distribute_right, assoc, mul-zero}
use Rattle.ps_term.proofs.Uniqueness.{same_values}
use Rattle.ps_term.proofs.Variables.{var_eq-true, var_lt_or_gt, var_lt_trans}
use Rattle.ps_term.specs.Exact.{number_term, kept_before, with_pair, with_pairs, plus_scaled, plus_replaced, substituted}
use Rattle.ps_term.specs.Pairs.{IsBelow, IsCanonical, pairs_value}
use Rattle.ps_term.specs.Substitution.{replacement, values_after}
use Rattle.ps_term.specs.Term.{value}
use Rattle.ps_term.specs.Var.{var_eq, var_lt}
use Rattle.ps_term.specs.declared.term.Term.{Term}
use Rattle.ps_term.specs.declared.var.Var.{Var}

int_eq-true : (a b : ℤ) → int_eq a b ≡ true → a ≡ b
int_eq-true a b h = grind (arith, ints)

int_eq-false : (a b : ℤ) → int_eq a b ≡ false → ¬ (a ≡ b)
int_eq-false a b h e = grind (arith, ints)

-- ---- what they are worth
kept_value : (v : Var → ℤ) (x : Var) (n : ℤ) (ps : List (Var × ℤ)) → pairs_value v (kept_before x n ps) ≡ ((n *ℤ v x) +ℤ pairs_value v ps)
kept_value v x n ps = at (int_eq n (pos 0)) refl
  where
    at : (t : Bool) → int_eq n (pos 0) ≡ t → pairs_value v (if t then ps else (x, n) ∷ ps) ≡ ((n *ℤ v x) +ℤ pairs_value v ps)
    at true e =
        let zero : n ≡ pos 0 = int_eq-true n (pos 0) e in
        let gone : (n *ℤ v x) ≡ (pos 0 *ℤ v x) = ap (λ (m : ℤ). m *ℤ v x) zero in
        omega (arith, ints, gone)
    at false e = refl

pub pair_value : (v : Var → ℤ) (x : Var) (n : ℤ) (ps : List (Var × ℤ)) → pairs_value v (with_pair x n ps) ≡ ((n *ℤ v x) +ℤ pairs_value v ps)
pair_value v x n [] = kept_value v x n []
pair_value v x n (p ∷ ps) = at (var_eq x p.0) refl (var_lt x p.0) (pair_value v x n ps)
  where
    at : (t : Bool) → var_eq x p.0 ≡ t → (u : Bool) → pairs_value v (with_pair x n ps) ≡ ((n *ℤ v x) +ℤ pairs_value v ps) →
        pairs_value v (if t then kept_before x (n +ℤ p.1) ps else if u then kept_before x n (p ∷ ps) else p ∷ with_pair x n ps)
        ≡ ((n *ℤ v x) +ℤ ((p.1 *ℤ v p.0) +ℤ pairs_value v ps))
    at true e u h =
        let same : (p.1 *ℤ v x) ≡ (p.1 *ℤ v p.0) = ap (λ (y : Var). p.1 *ℤ v y) (var_eq-true x p.0 e) in
        omega (arith, ints, kept_value v x (n +ℤ p.1) ps, distribute_right n p.1 (v x), same)
    at false e true h = kept_value v x n (p ∷ ps)
    at false e false h = omega (arith, ints, h)

pairs_worth : (v : Var → ℤ) (ps : List (Var × ℤ)) (by : ℤ) (qs : List (Var × ℤ)) → pairs_value v (with_pairs ps by qs) ≡ (pairs_value v ps +ℤ (by *ℤ pairs_value v qs))
pairs_worth v ps by [] = omega (arith, ints, mul-zero by)
pairs_worth v ps by (q ∷ qs) =
    omega (arith, ints, pair_value v q.0 (by *ℤ q.1) (with_pairs ps by qs), pairs_worth v ps by qs, distribute by (q.1 *ℤ v q.0) (pairs_value v qs), assoc by q.1 (v q.0))

pub sum_worth : (v : Var → ℤ) (a : Term) (by : ℤ) (b : Term) → value v (plus_scaled a by b) ≡ (value v a +ℤ (by *ℤ value v b))
sum_worth v a by b = omega (arith, ints, pairs_worth v a.pairs by b.pairs, distribute by (pairs_value v b.pairs) b.constant)

replaced_worth : (v : Var → ℤ) (after : List (Var × Term)) (a : Term) (ps : List (Var × ℤ)) → value v (plus_replaced after a ps) ≡ (value v a +ℤ pairs_value (values_after v after) ps)
replaced_worth v after a [] = omega (arith, ints)
replaced_worth v after a (p ∷ ps) =
    omega (arith, ints, sum_worth v (plus_replaced after a ps) p.1 (replacement after p.0), replaced_worth v after a ps)

pub put_worth : (v : Var → ℤ) (after : List (Var × Term)) (t : Term) → value v (substituted after t) ≡ value (values_after v after) t
put_worth v after t = omega (arith, ints, replaced_worth v after (number_term t.constant) t.pairs)

-- ---- canonical forms
below_kept : (y x : Var) (n : ℤ) (ps : List (Var × ℤ)) → var_lt y x ≡ true → IsBelow y ps → IsBelow y (kept_before x n ps)
below_kept y x n ps l b = at (int_eq n (pos 0))
  where
    at : (t : Bool) → IsBelow y (if t then ps else (x, n) ∷ ps)
    at true = b
    at false = l

kept_canonical : (x : Var) (n : ℤ) (ps : List (Var × ℤ)) → IsBelow x ps → IsCanonical ps → IsCanonical (kept_before x n ps)
kept_canonical x n ps b c = at (int_eq n (pos 0)) refl
  where
    at : (t : Bool) → int_eq n (pos 0) ≡ t → IsCanonical (if t then ps else (x, n) ∷ ps)
    at true e = c
    at false e = (int_eq-false n (pos 0) e, b, c)

below_trans : (y x : Var) (ps : List (Var × ℤ)) → var_lt y x ≡ true → IsBelow x ps → IsBelow y ps
below_trans y x [] l b = tt
below_trans y x (p ∷ ps) l b = var_lt_trans y x p.0 l b

below_pair : (y x : Var) (n : ℤ) (ps : List (Var × ℤ)) → IsCanonical ps → var_lt y x ≡ true → IsBelow y ps → IsBelow y (with_pair x n ps)
below_pair y x n [] c l b = below_kept y x n [] l tt
below_pair y x n (p ∷ ps) c l b = at (var_eq x p.0) (var_lt x p.0)
  where
    at : (t u : Bool) → IsBelow y (if t then kept_before x (n +ℤ p.1) ps else if u then kept_before x n (p ∷ ps) else p ∷ with_pair x n ps)
    at true u = below_kept y x (n +ℤ p.1) ps l (below_trans y p.0 ps b c.1)
    at false true = below_kept y x n (p ∷ ps) l b
    at false false = b

pub pair_canonical : (x : Var) (n : ℤ) (ps : List (Var × ℤ)) → IsCanonical ps → IsCanonical (with_pair x n ps)
pair_canonical x n [] c = kept_canonical x n [] tt tt
pair_canonical x n (p ∷ ps) c = at (var_eq x p.0) refl (var_lt x p.0) refl (pair_canonical x n ps c.2)
  where
    at : (t : Bool) → var_eq x p.0 ≡ t → (u : Bool) → var_lt x p.0 ≡ u → IsCanonical (with_pair x n ps) →
        IsCanonical (if t then kept_before x (n +ℤ p.1) ps else if u then kept_before x n (p ∷ ps) else p ∷ with_pair x n ps)
    at true e u f h = kept_canonical x (n +ℤ p.1) ps (subst (λ (y : Var). IsBelow y ps) (sym (var_eq-true x p.0 e)) c.1) c.2
    at false e true f h = kept_canonical x n (p ∷ ps) f c
    at false e false f h = (c.0, below_pair p.0 x n ps c.2 (var_lt_or_gt x p.0 e f) c.1, h)

pairs_canonical : (ps : List (Var × ℤ)) (by : ℤ) (qs : List (Var × ℤ)) → IsCanonical ps → IsCanonical (with_pairs ps by qs)
pairs_canonical ps by [] c = c
pairs_canonical ps by (q ∷ qs) c = pair_canonical q.0 (by *ℤ q.1) (with_pairs ps by qs) (pairs_canonical ps by qs c)

pub sum_canonical : (a : Term) (by : ℤ) (b : Term) → IsCanonical a.pairs → IsCanonical (plus_scaled a by b).pairs
sum_canonical a by b c = pairs_canonical a.pairs by b.pairs c

replaced_canonical : (after : List (Var × Term)) (a : Term) (ps : List (Var × ℤ)) → IsCanonical a.pairs → IsCanonical (plus_replaced after a ps).pairs
replaced_canonical after a [] c = c
replaced_canonical after a (p ∷ ps) c =
    sum_canonical (plus_replaced after a ps) p.1 (replacement after p.0) (replaced_canonical after a ps c)

pub put_canonical : (after : List (Var × Term)) (t : Term) → IsCanonical (substituted after t).pairs
put_canonical after t = replaced_canonical after (number_term t.constant) t.pairs tt

-- ---- there is one of each
pub same_term : (s t : Term) → IsCanonical s.pairs → IsCanonical t.pairs → ((v : Var → ℤ) → value v s ≡ value v t) → s ≡ t
same_term s t c d e =
    let make : List (Var × ℤ) → ℤ → Term = λ ps n. record { pairs = ps; constant = n } in
    let both : (s.pairs ≡ t.pairs) × (s.constant ≡ t.constant) = same_values s.pairs t.pairs s.constant t.constant c d e in
    ap₂ make both.0 both.1

pub sum_is : (s a : Term) (by : ℤ) (b : Term) → IsCanonical a.pairs → IsCanonical s.pairs → ((v : Var → ℤ) → value v s ≡ (value v a +ℤ (by *ℤ value v b))) → s ≡ plus_scaled a by b
sum_is s a by b c d e = same_term s (plus_scaled a by b) d (sum_canonical a by b c) (λ v. e v ∙ sym (sum_worth v a by b))

pub put_is : (s : Term) (after : List (Var × Term)) (t : Term) → IsCanonical s.pairs → ((v : Var → ℤ) → value v s ≡ value (values_after v after) t) → s ≡ substituted after t
put_is s after t d e = same_term s (substituted after t) d (put_canonical after t) (λ v. e v ∙ sym (put_worth v after t))
