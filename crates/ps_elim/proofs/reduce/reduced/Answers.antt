use Rattle.std.proofs.Common.{◌≡◌, ℕ, All, ◌<◌, ◌≤◌, ◌/◌, ◌*ℤ◌, ◌^◌, pos, List, map, length, IfOk, Result, Ok, Err, unsigned_abs, sym, ap, ◌∙◌, subst, arith}
use Rattle.std.specs.Int.{◌∣◌}
use Rattle.std.proofs.lemmas.List.{length-map}
use Rattle.std.proofs.lemmas.List.Elements.{recursion_from_All}
use Rattle.std.proofs.lemmas.Result.{IfOk-weaker}
use Rattle.ps_elim.specs.Divisors.{divisor_of_all, reduced}
use Rattle.ps_elim.specs.Places.{support_of}
use Rattle.ps_elim.specs.Vectors.{IsSum}
use Rattle.ps_elim.specs.inner.Weighing.{IsWeighted}
use Rattle.ps_elim.specs.declared.weighted.Weighted.{Weighted}
use Rattle.ps_elim.proofs.Gcds.{divisor_of_all-common, divisor_of_all-small, reduced-same}
use Rattle.ps_elim.proofs.Sums.{reduced_divides, reduced_part}
use Rattle.ps_term.specs.Pairs.{coefficient}
use Rattle.ps_term.specs.declared.row.Row.{Row}
use Rattle.ps_term.specs.declared.var.Var.{Var}
use Rattle.ps_elim.proofs.reduce.reduced.Goals as goal

pub returns-then-divisor-le1-clause-vector : goal.returns-then-divisor-le1-clause-vector
returns-then-divisor-le1-clause-vector g c =
    let v = c.args.vector in
    let is : c.divisor-divisor.result ≡ divisor_of_all v = c.divisor-divisor.ensures in
    let small : divisor_of_all v ≤ 1 = omega (arith, is, c.if-divisor-le1.true) in
    IfOk-weaker c.with_support.result (λ made. made.vector ≡ v) (λ made. made.vector ≡ reduced v) (λ made e. e ∙ sym (reduced-same v small)) c.with_support.ensures.vector

pub divided_term-requires-clause-small : goal.divided_term-requires-clause-small
divided_term-requires-clause-small g c =
    let v = c.args.vector in
    let is : c.divisor-divisor.result ≡ divisor_of_all v = c.divisor-divisor.ensures in
    omega (arith, is, divisor_of_all-small (2 ^ 127) v (omega arith) (recursion_from_All (λ n. n < 2 ^ 127) v c.requires.1.0))

pub divided_term-requires-clause-coefficients : goal.divided_term-requires-clause-coefficients
divided_term-requires-clause-coefficients g c =
    let v = c.args.vector in
    let is : c.divisor-divisor.result ≡ divisor_of_all v = c.divisor-divisor.ensures in
    let some : 0 < divisor_of_all v = omega (arith, is, c.if-divisor-le1.false) in
    λ x. subst (λ (d : ℕ). d ∣ unsigned_abs (coefficient x c.args.row.term.pairs)) (sym is) (reduced_divides (λ t. coefficient x t.pairs) g.rows v (coefficient x c.args.row.term.pairs) some (c.requires.1.1.coefficients x))

pub divided_term-requires-clause-constant : goal.divided_term-requires-clause-constant
divided_term-requires-clause-constant g c =
    let v = c.args.vector in
    let is : c.divisor-divisor.result ≡ divisor_of_all v = c.divisor-divisor.ensures in
    let some : 0 < divisor_of_all v = omega (arith, is, c.if-divisor-le1.false) in
    subst (λ (d : ℕ). d ∣ unsigned_abs c.args.row.term.constant) (sym is) (reduced_divides (λ t. t.constant) g.rows v c.args.row.term.constant some c.requires.1.1.constant)

-- what is known of a result in three clauses
together : {E : Type 0} (A B C D : Weighted → Type 0) (r : Result Weighted E) → ((w : Weighted) → A w → B w → C w → D w) → IfOk r A → IfOk r B → IfOk r C → IfOk r D
together A B C D (Ok w) f a b d = f w a b d
together A B C D (Err e) f a b d = tt

divided_sum : (rows : List Row) (v : List ℕ) (old new : Row) → 0 < divisor_of_all v → IsSum rows v old → ((x : Var) → coefficient x old.term.pairs ≡ (pos (divisor_of_all v) *ℤ coefficient x new.term.pairs)) → old.term.constant ≡ (pos (divisor_of_all v) *ℤ new.term.constant) → IsSum rows (reduced v) new
divided_sum rows v old new h s c k = record {
  coefficients = λ x. reduced_part (λ t. coefficient x t.pairs) rows v (coefficient x new.term.pairs) h (sym (s.coefficients x) ∙ c x);
  constant = reduced_part (λ t. t.constant) rows v new.term.constant h (sym s.constant ∙ k);
}

weighted_from : (rows : List Row) (v u : List ℕ) (row : Row) (w : Weighted) → u ≡ reduced v → length v ≡ length rows → IsSum rows (reduced v) row → w.vector ≡ u → w.row ≡ row → w.support ≡ support_of u → IsWeighted rows w
weighted_from rows v u row w e l s a b d = record {
  long = ap length (a ∙ e) ∙ (length-map v (λ n. n / divisor_of_all v) ∙ l);
  sum = subst (λ (r : Row). IsSum rows w.vector r) (sym b) (subst (λ (t : List ℕ). IsSum rows t row) (sym (a ∙ e)) s);
  support = d ∙ ap support_of (sym a);
}

pub divided-requires-clause-small : goal.divided-requires-clause-small
divided-requires-clause-small g c =
    let v = c.args.vector in
    let is : c.divisor-divisor.result ≡ divisor_of_all v = c.divisor-divisor.ensures in
    omega (arith, is, divisor_of_all-small (2 ^ 127) v (omega arith) (recursion_from_All (λ n. n < 2 ^ 127) v c.requires.1.0))

pub divided-requires-clause-divides : goal.divided-requires-clause-divides
divided-requires-clause-divides g c =
    subst (λ (d : ℕ). All (λ n. d ∣ n) c.args.vector) (sym c.divisor-divisor.ensures) (divisor_of_all-common c.args.vector)

pub returns-clause-weighted : goal.returns-clause-weighted
returns-clause-weighted g c =
    let v = c.args.vector in
    let is : c.divisor-divisor.result ≡ divisor_of_all v = c.divisor-divisor.ensures in
    let some : 0 < divisor_of_all v = omega (arith, is, c.if-divisor-le1.false) in
    let old = c.args.row in
    let new : Row = record { term = c.in_ok-term.term } in
    let u = c.in_ok-vector.vector in
    let same : u ≡ reduced v = c.in_ok-vector.ensures ∙ ap (λ (d : ℕ). map (λ n. n / d) v) is in
    let sum = divided_sum g.rows v old new some c.requires.1.1 (λ x. subst (λ (d : ℕ). coefficient x old.term.pairs ≡ (pos d *ℤ coefficient x new.term.pairs)) is (c.in_ok-term.ensures.coefficients x)) (subst (λ (d : ℕ). old.term.constant ≡ (pos d *ℤ new.term.constant)) is c.in_ok-term.ensures.constant) in
    together (λ w. w.vector ≡ u) (λ w. w.row ≡ new) (λ w. w.support ≡ support_of u) (IsWeighted g.rows) c.with_support-2.result (λ w a b d. weighted_from g.rows v u new w same c.requires.0 sum a b d) c.with_support-2.ensures.vector c.with_support-2.ensures.row c.with_support-2.ensures.support
