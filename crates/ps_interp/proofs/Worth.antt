-- What the sums at cuts are worth, and what interpolants are.
use Rattle.std.proofs.Common.{◌≡◌, refl, sym, ap, ap₂, ◌∙◌, subst, ℕ, ℤ, pos, negsuc, ◌*ℤ◌, ◌+ℤ◌, ◌-ℤ◌, ◌≤ℤ◌, ◌<ℤ◌, List, [], ◌∷◌, ◌++◌, length, map, arith}
use Rattle.std.specs.List.{AllByRecursion}
use Rattle.std.proofs.lemmas.Int.{by_lt_z, ints}
use Rattle.ps_atom.specs.Atoms.{at_threads}
use Rattle.ps_atom.specs.Canonical.{IsInSlots}
use Rattle.ps_atom.specs.declared.predicate.Predicate.{Predicate}
use Rattle.ps_atom.proofs.Facts.{in_slots_says}
use Rattle.ps_command.specs.declared.symbolic_form.SymbolicForm.{SymbolicForm}
use Rattle.ps_farkas.specs.Refutes.{Refutes, weighted}
use Rattle.ps_interp.specs.Sums.{letter_sum, plus_rows, rows_by, sum_before, terms_by}
use Rattle.ps_term.specs.Exact.{number_term, plus_scaled, substituted, with_pairs}
use Rattle.ps_term.specs.Pairs.{IsCanonical, coefficient, pairs_value}
use Rattle.ps_term.specs.Substitution.{values_after}
use Rattle.ps_term.specs.Term.{value}
use Rattle.ps_term.specs.Tightened.{IsTightened}
use Rattle.ps_term.specs.Whole.{IsCeiling}
use Rattle.ps_term.specs.declared.row.Row.{Row}
use Rattle.ps_term.specs.declared.term.Term.{Term}
use Rattle.ps_term.specs.declared.var.Var.{Var}
use Rattle.ps_term.proofs.ExactTerms.{put_worth, sum_canonical, sum_worth}
use Rattle.ps_term.proofs.Ring.{distribute, mul-one, mul-zero, one-mul}
use Rattle.ps_term.proofs.Uniqueness.{pairs_value-unit_at, pairs_value-zero, same_coefficients, unit_at}

-- ---- a weighted sum that is worth one constant at all values refutes
pub constant_worth : (t : Term) → value (λ (x : Var). pos 0) t ≡ t.constant
constant_worth t = omega (arith, ints, pairs_value-zero t.pairs)

pub coefficient_worth : (x : Var) (t : Term) → value (unit_at x) t ≡ (coefficient x t.pairs +ℤ t.constant)
coefficient_worth x t = ap (λ (z : ℤ). z +ℤ t.constant) (pairs_value-unit_at x t.pairs)

pub constants_worth : (rows : List Row) (ns : List ℕ) → weighted (λ t. t.constant) rows ns ≡ weighted (value (λ (x : Var). pos 0)) rows ns
constants_worth [] ns = refl
constants_worth (r ∷ rows) [] = refl
constants_worth (r ∷ rows) (n ∷ ns) = ap₂ (λ (y z : ℤ). (pos n *ℤ y) +ℤ z) (sym (constant_worth r.term)) (constants_worth rows ns)

two_sums : (n a b s t u : ℤ) → n *ℤ (a +ℤ b) ≡ (n *ℤ a) +ℤ (n *ℤ b) → (s +ℤ t) ≡ u → (((n *ℤ a) +ℤ s) +ℤ ((n *ℤ b) +ℤ t)) ≡ ((n *ℤ (a +ℤ b)) +ℤ u)
two_sums n a b s t u h k = omega (arith, ints, h, k)

pub coefficients_worth : (x : Var) (rows : List Row) (ns : List ℕ) →
    (weighted (λ t. coefficient x t.pairs) rows ns +ℤ weighted (λ t. t.constant) rows ns) ≡ weighted (value (unit_at x)) rows ns
coefficients_worth x [] ns = refl
coefficients_worth x (r ∷ rows) [] = refl
coefficients_worth x (r ∷ rows) (n ∷ ns) =
    two_sums (pos n) (coefficient x r.term.pairs) r.term.constant (weighted (λ t. coefficient x t.pairs) rows ns) (weighted (λ t. t.constant) rows ns) (weighted (value (unit_at x)) rows ns)
    (distribute (pos n) (coefficient x r.term.pairs) r.term.constant) (coefficients_worth x rows ns)
    ∙ ap (λ (z : ℤ). (pos n *ℤ z) +ℤ weighted (value (unit_at x)) rows ns) (sym (coefficient_worth x r.term))

left_over : (a b c : ℤ) → (a +ℤ b) ≡ c → b ≡ c → a ≡ pos 0
left_over a b c e f = omega (arith, ints, e, f)

pub refutes_by_worth : (rows : List Row) (ns : List ℕ) (c : ℤ) → length ns ≡ length rows → pos 1 ≤ℤ c → ((v : Var → ℤ) → weighted (value v) rows ns ≡ c) → Refutes rows ns
refutes_by_worth rows ns c long high worth = record {
  lengths = long;
  cancels = λ x. left_over (weighted (λ t. coefficient x t.pairs) rows ns) (weighted (λ t. t.constant) rows ns) c
      (coefficients_worth x rows ns ∙ worth (unit_at x)) (constants_worth rows ns ∙ worth (λ (y : Var). pos 0));
  positive = subst (λ (z : ℤ). pos 1 ≤ℤ z) (sym (constants_worth rows ns ∙ worth (λ (y : Var). pos 0))) high;
}

-- and one that refutes is worth one constant
value_parts : (v : Var → ℤ) (rows : List Row) (ns : List ℕ) →
    weighted (value v) rows ns ≡ (weighted (λ t. pairs_value v t.pairs) rows ns +ℤ weighted (λ t. t.constant) rows ns)
value_parts v [] ns = refl
value_parts v (r ∷ rows) [] = refl
value_parts v (r ∷ rows) (n ∷ ns) =
    sym (two_sums (pos n) (pairs_value v r.term.pairs) r.term.constant (weighted (λ t. pairs_value v t.pairs) rows ns) (weighted (λ t. t.constant) rows ns) (weighted (value v) rows ns)
    (distribute (pos n) (pairs_value v r.term.pairs) r.term.constant) (sym (value_parts v rows ns)))

-- ---- weighted sums of lists put together, and of rows that are worth the same
sum_assoc : (a b c : ℤ) → (a +ℤ (b +ℤ c)) ≡ ((a +ℤ b) +ℤ c)
sum_assoc a b c = omega (arith, ints)

zero_sum : (a : ℤ) → a ≡ (pos 0 +ℤ a)
zero_sum a = omega (arith, ints)

pub weighted_append : (part : Term → ℤ) (rows more : List Row) (ns ms : List ℕ) → length ns ≡ length rows →
    weighted part (rows ++ more) (ns ++ ms) ≡ (weighted part rows ns +ℤ weighted part more ms)
weighted_append part [] more [] ms e = zero_sum (weighted part more ms)
weighted_append part [] more (n ∷ ns) ms e = let no : ⊥ = omega (arith, e) in absurd no
weighted_append part (r ∷ rows) more [] ms e = let no : ⊥ = omega (arith, e) in absurd no
weighted_append part (r ∷ rows) more (n ∷ ns) ms e =
    ap (λ (z : ℤ). (pos n *ℤ part r.term) +ℤ z) (weighted_append part rows more ns ms (omega (arith, e)))
    ∙ sum_assoc (pos n *ℤ part r.term) (weighted part rows ns) (weighted part more ms)

pub weighted_one : (part : Term → ℤ) (r : Row) (n : ℕ) → weighted part (r ∷ []) (n ∷ []) ≡ (pos n *ℤ part r.term)
weighted_one part r n = let z : ℤ = pos n *ℤ part r.term in let e : (z +ℤ pos 0) ≡ z = omega (arith, ints) in e

pub weighted_map : (part other : Term → ℤ) (f : Row → Row) (rows : List Row) (ns : List ℕ) → AllByRecursion (λ (r : Row). part (f r).term ≡ other r.term) rows →
    weighted part (map f rows) ns ≡ weighted other rows ns
weighted_map part other f [] ns h = refl
weighted_map part other f (r ∷ rows) [] h = refl
weighted_map part other f (r ∷ rows) (n ∷ ns) h = ap₂ (λ (y z : ℤ). (pos n *ℤ y) +ℤ z) h.0 (weighted_map part other f rows ns h.1)

-- ---- sums at cuts
pub rows_worth : (v : Var → ℤ) (t : Term) (rows : List Row) (ns : List ℕ) → value v (plus_rows t rows ns) ≡ (value v t +ℤ weighted (value v) rows ns)
rows_worth v t [] ns = let z : ℤ = value v t in let e : z ≡ (z +ℤ pos 0) = omega (arith, ints) in e
rows_worth v t (r ∷ rows) [] = let z : ℤ = value v t in let e : z ≡ (z +ℤ pos 0) = omega (arith, ints) in e
rows_worth v t (r ∷ rows) (n ∷ ns) =
    rows_worth v (plus_scaled t (pos n) r.term) rows ns
    ∙ ap (λ (z : ℤ). z +ℤ weighted (value v) rows ns) (sum_worth v t (pos n) r.term)
    ∙ sym (sum_assoc (value v t) (pos n *ℤ value v r.term) (weighted (value v) rows ns))

pub rows_canonical : (t : Term) (rows : List Row) (ns : List ℕ) → IsCanonical t.pairs → IsCanonical (plus_rows t rows ns).pairs
rows_canonical t [] ns c = c
rows_canonical t (r ∷ rows) [] c = c
rows_canonical t (r ∷ rows) (n ∷ ns) c = rows_canonical (plus_scaled t (pos n) r.term) rows ns (sum_canonical t (pos n) r.term c)

from_zero : (a b : ℤ) → (((pos 0 +ℤ pos 0) +ℤ a) +ℤ (pos 1 *ℤ b)) ≡ (a +ℤ b)
from_zero a b = omega (arith, ints, one-mul b)

pub sum_before_worth : (v : Var → ℤ) (k : ℕ) (form : SymbolicForm) (ws : List ℕ) (next : Term) →
    value v (sum_before k form ws next) ≡ (weighted (value v) (rows_by k form) ws +ℤ value (values_after v (terms_by k form)) next)
sum_before_worth v k form ws next =
    sum_worth v (letter_sum k form ws) (pos 1) (substituted (terms_by k form) next)
    ∙ ap₂ (λ (y z : ℤ). y +ℤ (pos 1 *ℤ z)) (rows_worth v (number_term (pos 0)) (rows_by k form) ws) (put_worth v (terms_by k form) next)
    ∙ from_zero (weighted (value v) (rows_by k form) ws) (value (values_after v (terms_by k form)) next)

pub sum_before_canonical : (k : ℕ) (form : SymbolicForm) (ws : List ℕ) (next : Term) → IsCanonical (sum_before k form ws next).pairs
sum_before_canonical k form ws next =
    sum_canonical (letter_sum k form ws) (pos 1) (substituted (terms_by k form) next) (rows_canonical (number_term (pos 0)) (rows_by k form) ws tt)

-- ---- a tightened row, taken so many times, is the row but for a constant
pub record Slack (row tight : Row) (divisor : ℕ) : Type 0 where
  pub slack : ℤ
  pub low : pos 0 ≤ℤ slack
  pub high : (slack +ℤ pos 1) ≤ℤ pos divisor
  pub worth : (v : Var → ℤ) → (pos divisor *ℤ value v tight.term) ≡ (value v row.term +ℤ slack)

scaled_coefficient : (x : Var) (f : ℕ) (t : Term) → coefficient x (plus_scaled (number_term (pos 0)) (pos f) t).pairs ≡ (pos f *ℤ coefficient x t.pairs)
scaled_coefficient x f t = at (sum_worth (unit_at x) (number_term (pos 0)) (pos f) (record { pairs = t.pairs; constant = pos 0 }))
  where
    at : (pairs_value (unit_at x) (with_pairs [] (pos f) t.pairs) +ℤ (pos 0 +ℤ (pos f *ℤ pos 0)))
        ≡ ((pos 0 +ℤ pos 0) +ℤ (pos f *ℤ (pairs_value (unit_at x) t.pairs +ℤ pos 0))) →
        coefficient x (with_pairs [] (pos f) t.pairs) ≡ (pos f *ℤ coefficient x t.pairs)
    at e =
        let a : pairs_value (unit_at x) (with_pairs [] (pos f) t.pairs) ≡ coefficient x (with_pairs [] (pos f) t.pairs) = pairs_value-unit_at x (with_pairs [] (pos f) t.pairs) in
        let b : (pos f *ℤ (pairs_value (unit_at x) t.pairs +ℤ pos 0)) ≡ (pos f *ℤ coefficient x t.pairs) =
        ap (λ (z : ℤ). pos f *ℤ z) (let p : pairs_value (unit_at x) t.pairs ≡ coefficient x t.pairs = pairs_value-unit_at x t.pairs in let q : (pairs_value (unit_at x) t.pairs +ℤ pos 0) ≡ coefficient x t.pairs = omega (arith, ints, p) in q) in
        omega (arith, ints, e, a, b, mul-zero (pos f))

multiple_worth : (v : Var → ℤ) (f : ℕ) (old new : List (Var × ℤ)) → IsCanonical old → ((x : Var) → coefficient x old ≡ (pos f *ℤ coefficient x new)) →
    pairs_value v old ≡ (pos f *ℤ pairs_value v new)
multiple_worth v f old new c e = at (sum_worth v (number_term (pos 0)) (pos f) t)
  where
    t : Term
    t = record { pairs = new; constant = pos 0 }

    is : old ≡ with_pairs [] (pos f) new
    is = same_coefficients old (with_pairs [] (pos f) new) c (sum_canonical (number_term (pos 0)) (pos f) (record { pairs = new; constant = pos 0 }) tt)
        (λ x. e x ∙ sym (scaled_coefficient x f (record { pairs = new; constant = pos 0 })))

    at : (pairs_value v (with_pairs [] (pos f) new) +ℤ (pos 0 +ℤ (pos f *ℤ pos 0))) ≡ ((pos 0 +ℤ pos 0) +ℤ (pos f *ℤ (pairs_value v new +ℤ pos 0))) →
        pairs_value v old ≡ (pos f *ℤ pairs_value v new)
    at w =
        let a : pairs_value v old ≡ pairs_value v (with_pairs [] (pos f) new) = ap (pairs_value v) is in
        let b : (pos f *ℤ (pairs_value v new +ℤ pos 0)) ≡ (pos f *ℤ pairs_value v new) =
        ap (λ (z : ℤ). pos f *ℤ z) (let z : ℤ = pairs_value v new in let q : (z +ℤ pos 0) ≡ z = omega (arith, ints) in q) in
        omega (arith, ints, w, a, b, mul-zero (pos f))

ceiling_low : (f : ℕ) (n q : ℤ) → IsCeiling n (pos f) q → pos 0 ≤ℤ ((pos f *ℤ q) -ℤ n)
ceiling_low f n q c = omega (arith, ints, c.reaches)

one_less : (f q : ℤ) → f *ℤ (q -ℤ pos 1) ≡ (f *ℤ q) -ℤ f
one_less f q =
    let d : f *ℤ (q +ℤ negsuc 0) ≡ (f *ℤ q) +ℤ (f *ℤ negsuc 0) = distribute f q (negsuc 0) in
    let m : f *ℤ negsuc 0 ≡ pos 0 -ℤ f = (let a : f *ℤ (pos 1 +ℤ negsuc 0) ≡ (f *ℤ pos 1) +ℤ (f *ℤ negsuc 0) = distribute f (pos 1) (negsuc 0) in omega (arith, ints, a, mul-one f, mul-zero f)) in
    let s : q -ℤ pos 1 ≡ q +ℤ negsuc 0 = omega (arith, ints) in
    ap (λ (z : ℤ). f *ℤ z) s ∙ (let e : f *ℤ (q +ℤ negsuc 0) ≡ (f *ℤ q) -ℤ f = omega (arith, ints, d, m) in e)

ceiling_high : (f : ℕ) (n q : ℤ) → IsCeiling n (pos f) q → (((pos f *ℤ q) -ℤ n) +ℤ pos 1) ≤ℤ pos f
ceiling_high f n q c = at (c.least (q -ℤ pos 1))
  where
    at : (n ≤ℤ (pos f *ℤ (q -ℤ pos 1)) → q ≤ℤ (q -ℤ pos 1)) → (((pos f *ℤ q) -ℤ n) +ℤ pos 1) ≤ℤ pos f
    at h =
        let e : pos f *ℤ (q -ℤ pos 1) ≡ (pos f *ℤ q) -ℤ pos f = one_less (pos f) q in
        let far : ¬ (n ≤ℤ (pos f *ℤ (q -ℤ pos 1))) = λ le. (let no : q ≤ℤ (q -ℤ pos 1) = h le in let none : ⊥ = omega (arith, ints, no) in none) in
        let near : (pos f *ℤ (q -ℤ pos 1)) <ℤ n = not_le n (pos f *ℤ (q -ℤ pos 1)) far in
        omega (arith, ints, e, near)
      where
        not_le : (a b : ℤ) → ¬ (a ≤ℤ b) → b <ℤ a
        not_le a b k = by_lt_z {P = b <ℤ a} b a (λ lt. lt) (λ le. absurd (k le))

pub tight_worth : (row tight : Row) (t : IsTightened row tight) → IsCanonical row.term.pairs → Slack row tight t.factor
tight_worth row tight t c = record {
  slack = (pos t.factor *ℤ tight.term.constant) -ℤ row.term.constant;
  low = ceiling_low t.factor row.term.constant tight.term.constant t.constant;
  high = ceiling_high t.factor row.term.constant tight.term.constant t.constant;
  worth = λ v. at v (distribute (pos t.factor) (pairs_value v tight.term.pairs) tight.term.constant) (multiple_worth v t.factor row.term.pairs tight.term.pairs c t.coefficients);
}
  where
    at : (v : Var → ℤ) → pos t.factor *ℤ (pairs_value v tight.term.pairs +ℤ tight.term.constant) ≡ (pos t.factor *ℤ pairs_value v tight.term.pairs) +ℤ (pos t.factor *ℤ tight.term.constant) →
        pairs_value v row.term.pairs ≡ (pos t.factor *ℤ pairs_value v tight.term.pairs) →
        (pos t.factor *ℤ value v tight.term) ≡ (value v row.term +ℤ ((pos t.factor *ℤ tight.term.constant) -ℤ row.term.constant))
    at v d m = omega (arith, ints, d, m)

-- ---- a predicate in slots is worth its row, at its threads
le_both : (a b : ℤ) → ((d : ℤ) → ((a +ℤ d) ≤ℤ pos 0 → (b +ℤ d) ≤ℤ pos 0) × ((b +ℤ d) ≤ℤ pos 0 → (a +ℤ d) ≤ℤ pos 0)) → a ≡ b
le_both a b h =
    let one : (b +ℤ (pos 0 -ℤ a)) ≤ℤ pos 0 = (h (pos 0 -ℤ a)).0 (omega (arith, ints)) in
    let two : (a +ℤ (pos 0 -ℤ b)) ≤ℤ pos 0 = (h (pos 0 -ℤ b)).1 (omega (arith, ints)) in
    omega (arith, ints, one, two)

pub in_slots_worth : (v : Var → ℤ) (row : Row) (p : Predicate) (ts : List ℕ) → IsCanonical row.term.pairs → IsInSlots row p ts →
    value (λ x. v (at_threads ts x)) p.row.term ≡ value v row.term
in_slots_worth v row p ts c s =
    ap₂ (λ (y z : ℤ). y +ℤ z)
    (le_both (pairs_value (λ x. v (at_threads ts x)) p.row.term.pairs) (pairs_value v row.term.pairs)
    (λ d. in_slots_says v (record { term = record { pairs = row.term.pairs; constant = d } })
    (record { arity = p.arity; row = record { term = record { pairs = p.row.term.pairs; constant = d } } }) ts c
    (record { in_order = s.in_order; arity = s.arity; coefficients = s.coefficients; constant = refl; canonical = s.canonical })))
    s.constant
