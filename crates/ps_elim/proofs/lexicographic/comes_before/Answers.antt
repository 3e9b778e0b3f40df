use Rattle.std.proofs.Common.{◌≡◌, ◌+◌, ℕ, ℤ, pos, ◌<◌, ◌≤◌, Bool, true, false, ◌||◌, ◌&&◌, List, [], ◌∷◌, nat_lt, int_lt, drop, get_or, length, length-drop, refl, sym, ap, ap₂, ◌∙◌, subst₂, arith}
use Rattle.std.proofs.lemmas.List.{drop_all, drop_more}
use Rattle.std.specs.Ordering.{int_eq}
use Rattle.std.proofs.lemmas.Bool.{and_parts, false≢true, lt-ltb}
use Rattle.std.proofs.lemmas.Bool.Decides.{Decides-int_eq, nat_tests}
use Rattle.std.proofs.lemmas.Int.{ints}
use Rattle.ps_elim.specs.inner.Lexicographic.{comes_before, is_lesser, is_same_pair}
use Rattle.ps_term.specs.Var.{var_eq, var_lt}
use Rattle.ps_term.specs.declared.var.Var.{Var}
use Rattle.ps_term.specs.declared.var.Var.TheVariants.{Global}
use Rattle.ps_term.proofs.Variables.{var_eq-true, var_eq_refl, var_lt-var_eq}
use Rattle.ps_elim.proofs.lexicographic.comes_before.Goals as goal

abbrev none : Var × ℤ
none = (Global 0, pos 0)

-- where the second list is at its end first, the first doesn't come before it
past_end : (ps qs : List (Var × ℤ)) (i : ℕ) → i < length ps → length qs ≤ i → comes_before (drop i ps) (drop i qs) ≡ false
past_end ps qs i h k = subst₂ (λ (us vs : List (Var × ℤ)). comes_before us vs ≡ false) (sym (drop_more ps i none h)) (sym (drop_all i qs k)) refl

-- where the first is at its end, it comes before if the second isn't
shorter : (qs : List (Var × ℤ)) → comes_before [] qs ≡ nat_lt 0 (length qs)
shorter [] = refl
shorter (q ∷ qs) = sym (lt-ltb 0 (length (q ∷ qs)) (omega arith))

at_end : (ps qs : List (Var × ℤ)) (i : ℕ) → i ≡ length ps → comes_before (drop i ps) (drop i qs) ≡ nat_lt (length ps) (length qs)
at_end ps qs i h =
    ap (λ (us : List (Var × ℤ)). comes_before us (drop i qs)) (drop_all i ps (omega (arith, h))) ∙ (shorter (drop i qs) ∙ same)
  where
    same : nat_lt 0 (length (drop i qs)) ≡ nat_lt (length ps) (length qs)
    same = grind (arith, nat_tests, length-drop i qs)

-- one pair of each
front : (ps qs : List (Var × ℤ)) (i : ℕ) → i < length ps → i < length qs → comes_before (drop i ps) (drop i qs) ≡ (is_lesser (get_or ps i none) (get_or qs i none) || (is_same_pair (get_or ps i none) (get_or qs i none) && comes_before (drop (i + 1) ps) (drop (i + 1) qs)))
front ps qs i l m = ap₂ (λ (us vs : List (Var × ℤ)). comes_before us vs) (drop_more ps i none l) (drop_more qs i none m)

other_pair : (a b d : Bool) → b ≡ false → (a || (b && d)) ≡ a
other_pair true b d e = refl
other_pair false false d e = refl
other_pair false true d e = cc

same_pair : (a b d : Bool) → a ≡ false → b ≡ true → (a || (b && d)) ≡ d
same_pair false true d e f = refl
same_pair true b d e f = absurd (false≢true (sym e))
same_pair false false d e f = absurd (false≢true f)

and_false : (t : Bool) → (t && false) ≡ false
and_false true = refl
and_false false = refl

-- a pair isn't lesser than itself
same_not_lesser : (p q : Var × ℤ) → is_same_pair p q ≡ true → is_lesser p q ≡ false
same_not_lesser p q h =
    let parts : (var_eq p.0 q.0 ≡ true) × (int_eq p.1 q.1 ≡ true) = and_parts (var_eq p.0 q.0) (int_eq p.1 q.1) h in
    let variable : p.0 ≡ q.0 = var_eq-true p.0 q.0 parts.0 in
    let entry : p.1 ≡ q.1 = (Decides-int_eq p.1 q.1).0 parts.1 in
    by_tests (var_lt q.0 p.0) refl (int_lt p.1 q.1) refl variable entry
  where
    by_tests : (t : Bool) → var_lt q.0 p.0 ≡ t → (l : Bool) → int_lt p.1 q.1 ≡ l → p.0 ≡ q.0 → p.1 ≡ q.1 → (t || (var_eq p.0 q.0 && l)) ≡ false
    by_tests true e l f variable entry =
        absurd (false≢true (sym (var_lt-var_eq q.0 p.0 e) ∙ (ap (λ (x : Var). var_eq q.0 x) variable ∙ var_eq_refl q.0)))
    by_tests false e true f variable entry = absurd (omega (arith, ints, entry, f))
    by_tests false e false f variable entry = and_false (var_eq p.0 q.0)

pub returns-then-at-others : goal.returns-then-at-others
returns-then-at-others c =
    sym (past_end c.args.pairs.now c.args.others.now c.loop-at.at c.loop-at-test.true c.if-at-others.true) ∙ c.loop-at.invariant.rest

pub returns-then-not-is_same_pair : goal.returns-then-not-is_same_pair
returns-then-not-is_same_pair c =
    let ps = c.args.pairs.now in
    let qs = c.args.others.now in
    let i = c.loop-at.at in
    let differ : is_same_pair (get_or ps i none) (get_or qs i none) ≡ false = sym c.is_same_pair.ensures ∙ c.if-not-is_same_pair.true in
    c.is_lesser.ensures ∙ (sym (front ps qs i c.loop-at-test.true c.if-at-others.false ∙ other_pair (is_lesser (get_or ps i none) (get_or qs i none)) (is_same_pair (get_or ps i none) (get_or qs i none)) (comes_before (drop (i + 1) ps) (drop (i + 1) qs)) differ) ∙ c.loop-at.invariant.rest)

pub loop-at-preserved : goal.loop-at-preserved
loop-at-preserved c =
    let ps = c.args.pairs.now in
    let qs = c.args.others.now in
    let i = c.loop-at.at in
    let same : is_same_pair (get_or ps i none) (get_or qs i none) ≡ true = sym c.is_same_pair.ensures ∙ c.if-not-is_same_pair.false in
    record {
      rest = sym (front ps qs i c.loop-at-test.true c.if-at-others.false ∙ same_pair (is_lesser (get_or ps i none) (get_or qs i none)) (is_same_pair (get_or ps i none) (get_or qs i none)) (comes_before (drop (i + 1) ps) (drop (i + 1) qs)) (same_not_lesser (get_or ps i none) (get_or qs i none) same) same) ∙ c.loop-at.invariant.rest;
      within = omega (arith, c.if-at-others.false);
    }

pub returns : goal.returns
returns c =
    sym (at_end c.args.pairs.now c.args.others.now c.loop-at.at (omega arith)) ∙ c.loop-at.invariant.rest
