-- The triple of a letter: its multipliers refute its rows.
use Rattle.std.proofs.Common.{◌≡◌, ◌≢◌, Bool, true, false, not, ◌==◌, refl, sym, ap, ap₂, ◌∙◌, subst, ℕ, suc, ◌<◌, ◌+◌, ℤ, pos, negsuc, ◌*ℤ◌, ◌+ℤ◌, ◌-ℤ◌, ◌≤ℤ◌, List, [], ◌∷◌, ◌++◌, length, length-append, filter, map, if◌then◌else◌, eq-eqb, arith}
use Rattle.std.specs.Prelude.{slice_get, Some, None}
use Rattle.std.specs.List.{AllByRecursion}
use Rattle.std.proofs.lemmas.Int.{ints}
use Rattle.std.proofs.lemmas.List.{get_or-map}
use Rattle.std.proofs.lemmas.List.Elements.{recursion_from_All}
use Rattle.std.proofs.lemmas.Option.{get_or_from_slice_get}
use Rattle.ps_atom.specs.Atoms.{at_threads, renamed_variable}
use Rattle.ps_atom.specs.Canonical.{IsCanonicalOf}
use Rattle.ps_atom.specs.Numbers.{false_predicate}
use Rattle.ps_atom.specs.Range.{IsDeclared, IsInRange}
use Rattle.ps_atom.specs.declared.predicate.Predicate.{Predicate}
use Rattle.ps_atom.proofs.Tightness.{same_tight}
use Rattle.ps_command.specs.declared.setting.Setting.{Setting}
use Rattle.ps_command.specs.declared.symbolic_form.SymbolicForm.{SymbolicForm}
use Rattle.ps_command.proofs.Alike.{same_value}
use Rattle.ps_farkas.specs.Refutes.{Refutes, weighted}
use Rattle.ps_interp.specs.Cuts.{IsFalseSum, IsTrivialSum}
use Rattle.ps_interp.specs.Entries.{numbered_threads, place_in, triple_of, with_numbers}
use Rattle.ps_interp.specs.Interpolants.{HasDivisor, Interpolant, false_interpolant, interpolant_row}
use Rattle.ps_interp.specs.Sums.{Weighed, sum_before, terms_by}
use Rattle.ps_term.specs.Exact.{number_term}
use Rattle.ps_term.specs.Pairs.{IsCanonical, pairs_value}
use Rattle.ps_term.specs.Substitution.{values_after}
use Rattle.ps_term.specs.Term.{value}
use Rattle.ps_term.specs.declared.row.Row.{Row}
use Rattle.ps_term.specs.declared.term.Term.{Term}
use Rattle.ps_term.specs.declared.var.Var.{Var}
use Rattle.ps_term.specs.declared.var.Var.TheVariants.{Global, Local, Havoc}
use Rattle.ps_term.proofs.ExactTerms.{put_worth, sum_canonical, sum_worth}
use Rattle.ps_term.proofs.Ring.{distribute, mul-one, zero-mul}
use Rattle.ps_triple.specs.Fits.{entry_rows, lambda_of}
use Rattle.ps_triple.specs.Places.{row_by}
use Rattle.ps_triple.specs.Rows.{atom_row, form_in, negated, predicate_of, row_after}
use Rattle.ps_triple.proofs.Renewed.{row_worth}
use Rattle.ps_interp.proofs.Numbered.{asks, not_same, own_form_in, rows_seen, seen_after, seen_first}
use Rattle.ps_interp.proofs.Worth.{Slack, in_slots_worth, refutes_by_worth, sum_before_worth, tight_worth, weighted_append, weighted_one}

-- ---- the numbers of threads
first_place : (k : ℕ) (us : List ℕ) → place_in (k ∷ us) k ≡ 0
first_place k us = at (k == k) (eq-eqb k k refl)
  where
    at : (t : Bool) → t ≡ true → (if t then 0 else suc (place_in us k)) ≡ 0
    at true e = refl
    at false e = cc

later_place : (k : ℕ) (us : List ℕ) (t : ℕ) → t ≢ k → place_in (k ∷ us) t ≡ suc (place_in us t)
later_place k us t apart = at (k == t) (not_same k t (λ e. apart (sym e)))
  where
    at : (b : Bool) → b ≡ false → (if b then 0 else suc (place_in us t)) ≡ suc (place_in us t)
    at true e = cc
    at false e = refl

pub mover_first : (k : ℕ) (slots : List ℕ) → place_in (numbered_threads k slots) k ≡ 0
mover_first k slots = first_place k (filter (λ (t : ℕ). not (t == k)) slots)

pub others_later : (k : ℕ) (slots : List ℕ) (t : ℕ) → t ≢ k → place_in (numbered_threads k slots) t ≢ 0
others_later k slots t apart z =
    let e : place_in (numbered_threads k slots) t ≡ suc (place_in (filter (λ (t : ℕ). not (t == k)) slots) t) = later_place k (filter (λ (t : ℕ). not (t == k)) slots) t apart in
    let none : ⊥ = omega (arith, e, z) in none

-- ---- the interpolant's row
pub interpolant_worth : (v : Var → ℤ) (sum : Term) → value v (interpolant_row sum).term ≡ (pos 1 -ℤ value v sum)
interpolant_worth v sum =
    let e : value v (interpolant_row sum).term ≡ (value v (number_term (pos 1)) +ℤ (negsuc 0 *ℤ value v sum)) = sum_worth v (number_term (pos 1)) (negsuc 0) sum in
    let n : value v (number_term (pos 1)) ≡ pos 1 = refl in
    omega (arith, ints, e, n)

pub interpolant_canonical : (sum : Term) → IsCanonical (interpolant_row sum).term.pairs
interpolant_canonical sum = sum_canonical (number_term (pos 1)) (negsuc 0) sum tt

pub negated_worth : (v : Var → ℤ) (r : Row) → value v (negated r).term ≡ (pos 1 -ℤ value v r.term)
negated_worth v r = interpolant_worth v r.term

-- a sum without variables
pub bare_worth : (v : Var → ℤ) (sum : Term) → sum.pairs ≡ [] → value v sum ≡ sum.constant
bare_worth v sum e = ap (λ (ps : List (Var × ℤ)). pairs_value v ps +ℤ sum.constant) e ∙ (let z : ℤ = sum.constant in let n : (pos 0 +ℤ z) ≡ z = omega (arith, ints) in n)

-- ---- the row of an atom by numbers
module _ (globals locals : ℕ) (new : ℕ → ℕ) (v : Var → ℤ) (ts : List ℕ) where
  declared_pairs : (arity : ℕ) → arity ≡ length ts → (ps : List (Var × ℤ)) → AllByRecursion (λ (p : Var × ℤ). IsDeclared globals locals arity p.0) ps →
      AllByRecursion (λ (p : Var × ℤ). v (at_threads (map new ts) p.0) ≡ v (renamed_variable new (at_threads ts p.0))) ps
  declared_pairs arity e [] h = tt
  declared_pairs arity e ((Global n, c) ∷ ps) h = (refl, declared_pairs arity e ps h.1)
  declared_pairs arity e ((Local s n, c) ∷ ps) h =
      (ap (λ (t : ℕ). v (Local t n)) (get_or-map new ts s 0 0 (subst (λ (m : ℕ). s < m) e h.0.0)), declared_pairs arity e ps h.1)
  declared_pairs arity e ((Havoc n, c) ∷ ps) h = absurd h.0

pub placed_worth : (globals locals : ℕ) (new : ℕ → ℕ) (v : Var → ℤ) (row : Row) (p : Predicate) (ts : List ℕ) → IsCanonicalOf row p ts → IsInRange globals locals p → (c : IsCanonicalOf row p ts) →
    value v (row_by (at_threads (map new ts)) p.row).term ≡ value (λ (x : Var). v (renamed_variable new x)) c.tight.term
placed_worth globals locals new v row p ts _ range c =
    row_worth (at_threads (map new ts)) v p.row
    ∙ (same_value (λ (x : Var). v (at_threads (map new ts) x)) (λ (x : Var). v (renamed_variable new (at_threads ts x))) p.row.term
    (declared_pairs globals locals new v ts p.arity c.in_slots.arity p.row.term.pairs (recursion_from_All (λ (q : Var × ℤ). IsDeclared globals locals p.arity q.0) p.row.term.pairs range.1))
    ∙ in_slots_worth (λ (x : Var). v (renamed_variable new x)) c.tight p ts c.canonical c.in_slots)

-- ---- what a known interpolant is worth, weighed by its divisor: 1 less the sum, and a constant that is less than the divisor
pub record Weighs (globals locals : ℕ) (list : List Predicate) (sum : Term) (q : Interpolant) : Type 0 where
  pub slack : ℤ
  pub low : pos 0 ≤ℤ slack
  pub high : (slack +ℤ pos 1) ≤ℤ pos q.divisor
  pub worth : (new : ℕ → ℕ) (v : Var → ℤ) →
      (pos q.divisor *ℤ value v (row_by (at_threads (map new q.atom.threads)) (predicate_of list q.atom.predicate).row).term)
      ≡ ((pos 1 -ℤ value (λ (x : Var). v (renamed_variable new x)) sum) +ℤ slack)

pub weighs : (globals locals : ℕ) (list : List Predicate) (sum : Term) (q : Interpolant) (p : Predicate) → slice_get list q.atom.predicate ≡ Some p →
    IsCanonicalOf (interpolant_row sum) p q.atom.threads → IsInRange globals locals p → HasDivisor (interpolant_row sum) q.divisor → Weighs globals locals list sum q
weighs globals locals list sum q p stands c range d = record {
  slack = s.slack;
  low = s.low;
  high = subst (λ (n : ℕ). (s.slack +ℤ pos 1) ≤ℤ pos n) (sym d.is) s.high;
  worth = λ new v.
      ap₂ (λ (n : ℕ) (r : Predicate). pos n *ℤ value v (row_by (at_threads (map new q.atom.threads)) r.row).term) d.is (get_or_from_slice_get list q.atom.predicate p false_predicate stands)
      ∙ (ap (λ (z : ℤ). pos d.tightened.factor *ℤ z) (placed_worth globals locals new v (interpolant_row sum) p q.atom.threads c range c ∙ ap (λ (r : Row). value (λ (x : Var). v (renamed_variable new x)) r.term) same)
      ∙ (s.worth (λ (x : Var). v (renamed_variable new x)) ∙ ap (λ (z : ℤ). z +ℤ s.slack) (interpolant_worth (λ (x : Var). v (renamed_variable new x)) sum)));
}
  where
    same : c.tight ≡ d.tight
    same = same_tight (interpolant_row sum) c.tight d.tight c.tightened d.tightened c.canonical d.canonical

    s : Slack (interpolant_row sum) d.tight d.tightened.factor
    s = tight_worth (interpolant_row sum) d.tight d.tightened (interpolant_canonical sum)

-- ---- what stands after a letter, as the last row of its triple
pub record Ends (list : List Predicate) (k : ℕ) (form : SymbolicForm) (sum : Term) (q : Interpolant) : Type 0 where
  pub rest : ℤ
  pub low : pos 0 ≤ℤ rest
  pub worth : (v : Var → ℤ) →
      (pos q.divisor *ℤ value v (row_after form (negated (atom_row list (with_numbers (numbered_threads k q.atom.threads) q.atom)))).term)
      ≡ (value (λ (x : Var). values_after v form.after (renamed_variable (place_in (numbered_threads k q.atom.threads)) x)) sum +ℤ rest)

pub ends_false : (list : List Predicate) (k : ℕ) (form : SymbolicForm) (sum : Term) → IsFalseSum sum → Ends list k form sum false_interpolant
ends_false list k form sum h = record {
  rest = pos 0 -ℤ sum.constant;
  low = omega (arith, ints, h.1);
  worth = λ v. at (value v (row_after form (negated (atom_row list (with_numbers (numbered_threads k []) false_interpolant.atom)))).term)
      (value (λ (x : Var). values_after v form.after (renamed_variable (place_in (numbered_threads k [])) x)) sum)
      (bare_worth (λ (x : Var). values_after v form.after (renamed_variable (place_in (numbered_threads k [])) x)) sum h.0);
}
  where
    at : (a b : ℤ) → b ≡ sum.constant → (pos 0 *ℤ a) ≡ (b +ℤ (pos 0 -ℤ sum.constant))
    at a b e = omega (arith, ints, e, zero-mul a)

pub one_minus : (n z : ℤ) → n *ℤ (pos 1 -ℤ z) ≡ n -ℤ (n *ℤ z)
one_minus n z =
    let same : n *ℤ ((pos 1 -ℤ z) +ℤ z) ≡ (n *ℤ (pos 1 -ℤ z)) +ℤ (n *ℤ z) = distribute n (pos 1 -ℤ z) z in
    let one : (pos 1 -ℤ z) +ℤ z ≡ pos 1 = omega (arith, ints) in
    let whole : n *ℤ ((pos 1 -ℤ z) +ℤ z) ≡ n = ap (λ (y : ℤ). n *ℤ y) one ∙ mul-one n in
    omega (arith, ints, same, whole)

pub ends_known : (list : List Predicate) (k globals locals : ℕ) (form : SymbolicForm) (sum : Term) (q : Interpolant) → Weighs globals locals list sum q → Ends list k form sum q
ends_known list k globals locals form sum q w = record {
  rest = (pos q.divisor -ℤ pos 1) -ℤ w.slack;
  low = omega (arith, ints, w.high);
  worth = λ v. at
      (value v (row_after form (negated (atom_row list (with_numbers (numbered_threads k q.atom.threads) q.atom)))).term)
      (value (values_after v form.after) (atom_row list (with_numbers (numbered_threads k q.atom.threads) q.atom)).term)
      (value (λ (x : Var). values_after v form.after (renamed_variable (place_in (numbered_threads k q.atom.threads)) x)) sum)
      (put_worth v form.after (negated (atom_row list (with_numbers (numbered_threads k q.atom.threads) q.atom))).term
      ∙ negated_worth (values_after v form.after) (atom_row list (with_numbers (numbered_threads k q.atom.threads) q.atom)))
      (w.worth (place_in (numbered_threads k q.atom.threads)) (values_after v form.after));
}
  where
    at : (a b c : ℤ) → a ≡ (pos 1 -ℤ b) → (pos q.divisor *ℤ b) ≡ ((pos 1 -ℤ c) +ℤ w.slack) → (pos q.divisor *ℤ a) ≡ (c +ℤ ((pos q.divisor -ℤ pos 1) -ℤ w.slack))
    at a b c e f =
        ap (λ (z : ℤ). pos q.divisor *ℤ z) e
        ∙ (let m : pos q.divisor *ℤ (pos 1 -ℤ b) ≡ pos q.divisor -ℤ (pos q.divisor *ℤ b) = one_minus (pos q.divisor) b in omega (arith, ints, m, f))

-- ---- a letter's rows and the last one
module _ (setting : Setting) (list : List Predicate) (w : Weighed) (after : Interpolant)
    (is : w.before ≡ sum_before w.thread (form_in setting w.command) w.weights w.after)
    (long : length w.weights ≡ length (form_in setting w.command).rows)
    (ends : Ends list w.thread (form_in setting w.command) w.after after) where
  abbrev Form : SymbolicForm
  Form = form_in setting w.command

  abbrev number : ℕ → ℕ
  number = place_in (numbered_threads w.thread after.atom.threads)

  abbrev Last : Row
  Last = row_after (form_in setting w.command) (negated (atom_row list (with_numbers (numbered_threads w.thread after.atom.threads) after.atom)))

  joined : (m x y z b : ℤ) → b ≡ (m +ℤ x) → x ≡ y → z ≡ (y +ℤ ends.rest) → (m +ℤ z) ≡ (b +ℤ ends.rest)
  joined m x y z b e f g = omega (arith, ints, e, f, g)

  pub rest_worth : (v : Var → ℤ) → weighted (value v) ((form_in setting w.command).rows ++ Last ∷ []) (w.weights ++ after.divisor ∷ [])
      ≡ (value (λ (x : Var). v (renamed_variable number x)) w.before +ℤ ends.rest)
  rest_worth v =
      weighted_append (value v) (form_in setting w.command).rows (Last ∷ []) w.weights (after.divisor ∷ []) long
      ∙ (ap (λ (z : ℤ). weighted (value v) (form_in setting w.command).rows w.weights +ℤ z) (weighted_one (value v) Last after.divisor)
      ∙ joined (weighted (value v) (form_in setting w.command).rows w.weights)
      (value (values_after (λ (x : Var). v (renamed_variable number x)) (terms_by w.thread (form_in setting w.command))) w.after)
      (value (λ (x : Var). values_after v (form_in setting w.command).after (renamed_variable number x)) w.after)
      (pos after.divisor *ℤ value v Last.term)
      (value (λ (x : Var). v (renamed_variable number x)) w.before)
      (ap (value (λ (x : Var). v (renamed_variable number x))) is
      ∙ (sum_before_worth (λ (x : Var). v (renamed_variable number x)) w.thread (form_in setting w.command) w.weights w.after
      ∙ ap (λ (z : ℤ). z +ℤ value (values_after (λ (x : Var). v (renamed_variable number x)) (terms_by w.thread (form_in setting w.command))) w.after)
      (rows_seen w.thread (λ (x : Var). v (renamed_variable number x)) v (form_in setting w.command).havocs
      (seen_first w.thread number (mover_first w.thread after.atom.threads) (others_later w.thread after.atom.threads) v (form_in setting w.command).havocs)
      (form_in setting w.command).rows w.weights (asks (form_in setting w.command) (own_form_in setting w.command)))))
      (ap (λ (f : Var → ℤ). value f w.after) (λ i x. seen_after w.thread number (mover_first w.thread after.atom.threads) (others_later w.thread after.atom.threads) v
      (form_in setting w.command) (own_form_in setting w.command) x i))
      (ends.worth v))

  rest_long : length (w.weights ++ after.divisor ∷ []) ≡ length ((form_in setting w.command).rows ++ Last ∷ [])
  rest_long = length-append w.weights (after.divisor ∷ []) ∙ (ap (λ (n : ℕ). n + 1) long ∙ sym (length-append (form_in setting w.command).rows (Last ∷ [])))

  -- from nothing, where the letter can't run
  pub refutes_from_nothing : IsTrivialSum w.before → Refutes (entry_rows setting list (triple_of w None after)) (lambda_of (triple_of w None after))
  refutes_from_nothing t = refutes_by_worth ((form_in setting w.command).rows ++ Last ∷ []) (w.weights ++ after.divisor ∷ []) (w.before.constant +ℤ ends.rest) rest_long
      (let a : pos 1 ≤ℤ w.before.constant = t.1 in let b : pos 0 ≤ℤ ends.rest = ends.low in omega (arith, ints, a, b))
      (λ v. rest_worth v ∙ ap (λ (z : ℤ). z +ℤ ends.rest) (bare_worth (λ (x : Var). v (renamed_variable number x)) w.before t.0))

  -- from an interpolant
  pub refutes_from : (globals locals : ℕ) (before : Interpolant) → Weighs globals locals list w.before before →
      Refutes (entry_rows setting list (triple_of w (Some before) after)) (lambda_of (triple_of w (Some before) after))
  refutes_from globals locals before from = refutes_by_worth
      (atom_row list (with_numbers (numbered_threads w.thread after.atom.threads) before.atom) ∷ ((form_in setting w.command).rows ++ Last ∷ []))
      (before.divisor ∷ (w.weights ++ after.divisor ∷ [])) ((pos 1 +ℤ from.slack) +ℤ ends.rest)
      (ap suc rest_long)
      (let a : pos 0 ≤ℤ from.slack = from.low in let b : pos 0 ≤ℤ ends.rest = ends.low in omega (arith, ints, a, b))
      (λ v. summed (pos before.divisor *ℤ value v (atom_row list (with_numbers (numbered_threads w.thread after.atom.threads) before.atom)).term)
      (weighted (value v) ((form_in setting w.command).rows ++ Last ∷ []) (w.weights ++ after.divisor ∷ []))
      (value (λ (x : Var). v (renamed_variable number x)) w.before)
      (from.worth number v) (rest_worth v))
    where
      summed : (a b c : ℤ) → a ≡ ((pos 1 -ℤ c) +ℤ from.slack) → b ≡ (c +ℤ ends.rest) → (a +ℤ b) ≡ ((pos 1 +ℤ from.slack) +ℤ ends.rest)
      summed a b c e f = omega (arith, ints, e, f)
