-- All entries of an interpolation hold.
use Rattle.std.proofs.Common.{◌≡◌, true, refl, sym, ap, ap₂, ◌∙◌, subst, ℕ, zero, suc, ◌<◌, ◌≤◌, ◌+◌, ◌-◌, ℤ, pos, ◌*ℤ◌, ◌+ℤ◌, ◌≤ℤ◌, List, [], ◌∷◌, ◌++◌, length, length-append, length-drop, map, take, drop, reverse, inl, inr, ◌⊎◌, Contains, arith}
use Rattle.std.specs.Prelude.{slice_get, Option, Some, option_map, unwrap_or}
use Rattle.std.specs.BTreeSet.{insert_key}
use Rattle.std.specs.Ordering.{nat_cmp}
use Rattle.std.specs.List.{AllByRecursion, AllZip, list_all, range_with_len}
use mathlib.Core.List.{reverse-cons}
use Rattle.std.proofs.lemmas.Bool.{and_parts}
use Rattle.std.proofs.lemmas.Bool.Decides.{nat_tests}
use Rattle.std.proofs.lemmas.Int.{ints}
use Rattle.std.proofs.lemmas.List.Elements.{All-contains, Contains-append_cases}
use Rattle.std.proofs.lemmas.Option.{get_or_from_slice_get, same_Some}
use Rattle.ps_list.proofs.Members.{nothing, cons_cases, here, there}
use Rattle.ps_list.proofs.Mapped.{from_mapped}
use Rattle.ps_atom.proofs.Chains.{all-contains}
use Rattle.ps_atom.specs.Numbers.{false_predicate}
use Rattle.ps_atom.specs.declared.predicate.Predicate.{Predicate}
use Rattle.ps_command.specs.declared.setting.Setting.{Setting}
use Rattle.ps_command.specs.declared.symbolic_form.SymbolicForm.{SymbolicForm}
use Rattle.ps_command.proofs.Forms.{variable_value}
use Rattle.ps_farkas.specs.Refutes.{Refutes, weighted}
use Rattle.ps_graph.specs.declared.edge.Edge.{Edge}
use Rattle.ps_graph.specs.declared.graph.Graph.{Graph}
use Rattle.ps_soundness.specs.Traces.{command_of_edge, trace_of}
use Rattle.ps_interp.specs.Cuts.{IsFalseSum, IsTrivialSum, cuts_down, sum_at}
use Rattle.ps_interp.specs.Entries.{false_triple, initial_of}
use Rattle.ps_interp.specs.Interpolants.{Interpolant, StandsAt}
use Rattle.ps_interp.specs.Made.{IsInterpolation, IsTripleAt, false_triples, letters_of}
use Rattle.ps_interp.specs.Sums.{first_sum, plus_rows, row_total}
use Rattle.ps_interp.specs.Weights.{letter_weights}
use Rattle.ps_term.specs.Exact.{number_term}
use Rattle.ps_term.specs.Pairs.{coefficient}
use Rattle.ps_term.specs.Term.{value}
use Rattle.ps_term.specs.declared.row.Row.{Row}
use Rattle.ps_term.specs.declared.term.Term.{Term}
use Rattle.ps_term.specs.declared.var.Var.{Var}
use Rattle.ps_term.specs.declared.var.Var.TheVariants.{Global, Local, Havoc}
use Rattle.ps_term.proofs.Uniqueness.{same_coefficients, unit_at}
use Rattle.ps_trace.specs.Rows.{SoFar, after_letter, form_at, letter_rows, nothing_yet, of_thread, row_of_thread, rows_after, rows_at_start, rows_of, rows_of_each, threads_from, threads_in_trace}
use Rattle.ps_trace.specs.Own.{is_own, is_own_row}
use Rattle.ps_trace.proofs.Meeting.{thread_value}
use Rattle.ps_trace.proofs.Owning.{declared_rows_own, has_command}
use Rattle.ps_triple.specs.Faults.{EntryHolds}
use Rattle.ps_triple.specs.Fits.{EntryFits}
use Rattle.ps_triple.specs.Rows.{form_in}
use Rattle.ps_triple.specs.declared.entry.Entry.{Entry}
use Rattle.ps_interp.proofs.Beginning.{split_weights, weighted_same}
use Rattle.ps_interp.proofs.Falses.{false_holds, initial_holds}
use Rattle.ps_interp.proofs.Firsts.{first_from}
use Rattle.ps_interp.proofs.Holding.{IsSum, triple_holds}
use Rattle.ps_interp.proofs.Letters.{IsLetter, each_sum, first_is, letter_at, sum_canonical_at, sum_vars_at, weights_long}
use Rattle.ps_interp.proofs.Numbered.{own_term_value}
use Rattle.ps_interp.proofs.Proving.{threads_tied}
use Rattle.ps_interp.proofs.Slots.{nothing_stands}
use Rattle.ps_interp.proofs.Totals.{Agree, Keeps, Total, forms_agree, is_under, now, rows_long, there_is, total_from}
use Rattle.ps_interp.proofs.Triples.{bare_worth}
use Rattle.ps_interp.proofs.Vars.{HasNoHavoc, all_append}
use Rattle.ps_interp.proofs.Worth.{coefficient_worth, coefficients_worth, constant_worth, constants_worth, rows_canonical, rows_worth}

-- ---- a weighted sum that refutes is worth one constant
bare_at : (a b p k w z cs ks : ℤ) → a ≡ (p +ℤ k) → b ≡ k → a ≡ ((pos 0 +ℤ pos 0) +ℤ w) → b ≡ ((pos 0 +ℤ pos 0) +ℤ z) → (cs +ℤ ks) ≡ w → ks ≡ z → cs ≡ pos 0 → p ≡ pos 0
bare_at a b p k w z cs ks e f g h i j m = omega (arith, ints, e, f, g, h, i, j, m)

refuted_bare : (rows : List Row) (ns : List ℕ) → Refutes rows ns → (plus_rows (number_term (pos 0)) rows ns).pairs ≡ []
refuted_bare rows ns r =
    same_coefficients t.pairs [] (rows_canonical (number_term (pos 0)) rows ns tt) tt
    (λ x. bare_at (value (unit_at x) t) (value (λ (y : Var). pos 0) t) (coefficient x t.pairs) t.constant
    (weighted (value (unit_at x)) rows ns) (weighted (value (λ (y : Var). pos 0)) rows ns) (weighted (λ t. coefficient x t.pairs) rows ns) (weighted (λ t. t.constant) rows ns)
    (coefficient_worth x t) (constant_worth t) (rows_worth (unit_at x) (number_term (pos 0)) rows ns) (rows_worth (λ (y : Var). pos 0) (number_term (pos 0)) rows ns)
    (coefficients_worth x rows ns) (constants_worth rows ns) (r.cancels x))
  where
    t : Term
    t = plus_rows (number_term (pos 0)) rows ns

refuted_worth : (v : Var → ℤ) (rows : List Row) (ns : List ℕ) → Refutes rows ns → weighted (value v) rows ns ≡ (plus_rows (number_term (pos 0)) rows ns).constant
refuted_worth v rows ns r = at (rows_worth v (number_term (pos 0)) rows ns) (bare_worth v (plus_rows (number_term (pos 0)) rows ns) (refuted_bare rows ns r))
  where
    at : value v (plus_rows (number_term (pos 0)) rows ns) ≡ ((pos 0 +ℤ pos 0) +ℤ weighted (value v) rows ns) →
        value v (plus_rows (number_term (pos 0)) rows ns) ≡ (plus_rows (number_term (pos 0)) rows ns).constant → weighted (value v) rows ns ≡ (plus_rows (number_term (pos 0)) rows ns).constant
    at e f = omega (arith, ints, e, f)

refuted_positive : (rows : List Row) (ns : List ℕ) → Refutes rows ns → pos 1 ≤ℤ (plus_rows (number_term (pos 0)) rows ns).constant
refuted_positive rows ns r =
    subst (λ (z : ℤ). pos 1 ≤ℤ z) (constants_worth rows ns ∙ refuted_worth (λ (y : Var). pos 0) rows ns r) r.positive

weighted_take : (part : Term → ℤ) (rows : List Row) (ns : List ℕ) → weighted part rows (take (length rows) ns) ≡ weighted part rows ns
weighted_take part [] ns = refl
weighted_take part (r ∷ rows) [] = refl
weighted_take part (r ∷ rows) (n ∷ ns) = ap (λ (z : ℤ). (pos n *ℤ part r.term) +ℤ z) (weighted_take part rows ns)

-- ---- threads, rows and letters
pub same_threads : (edges : List Edge) (ks : List ℕ) (letters : List (ℕ × ℕ)) → threads_from ks (trace_of edges letters) ≡ threads_from ks letters
same_threads edges ks [] = refl
same_threads edges ks (l ∷ ls) = same_threads edges (insert_key nat_cmp ks l.0) ls

all_agree : (graph : Graph) (letters : List (ℕ × ℕ)) → AllByRecursion (λ (l : ℕ × ℕ). l.1 < length graph.edges) letters →
    AllByRecursion (λ (l : ℕ × ℕ). form_at graph l.1 ≡ form_in graph.setting (command_of_edge graph.edges l.1)) letters
all_agree graph [] h = tt
all_agree graph (l ∷ ls) h = (forms_agree graph l.1 h.0, all_agree graph ls h.1)

after_long : (graph : Graph) (f : SoFar) (letters : List (ℕ × ℕ)) → AllByRecursion (λ (l : ℕ × ℕ). form_at graph l.1 ≡ form_in graph.setting (command_of_edge graph.edges l.1)) letters →
    length (rows_after graph f letters) ≡ row_total graph.setting (trace_of graph.edges letters)
after_long graph f [] h = refl
after_long graph f (l ∷ ls) h =
    length-append (letter_rows f l.0 (form_at graph l.1)) (rows_after graph (after_letter f l.0 (form_at graph l.1)) ls)
    ∙ ap₂ (λ (m n : ℕ). m + n) (rows_long f l.0 (form_at graph l.1) ∙ ap (λ (g : SymbolicForm). length g.rows) h.0)
    (after_long graph (after_letter f l.0 (form_at graph l.1)) ls h.1)

under_own : (x : Var) → is_own 0 x ≡ true → is_under 0 x ≡ true
under_own (Global n) o = refl
under_own (Local t n) o = refl
under_own (Havoc i) o = o

under_thread : (k : ℕ) (x : Var) → is_own 0 x ≡ true → is_under 0 (of_thread k 0 x) ≡ true
under_thread k (Global n) o = refl
under_thread k (Local t n) o = refl
under_thread k (Havoc i) o = absurd (grind (arith, nat_tests))

-- the rows at the start name no havoc
module _ (v w : Var → ℤ) (a : Agree 0 v w) where
  own_same : (rows : List Row) → list_all (is_own_row 0) rows ≡ true → AllByRecursion (λ (r : Row). value v r.term ≡ value w r.term) rows
  own_same [] o = tt
  own_same (r ∷ rows) o =
      let q : (is_own_row 0 r ≡ true) × (list_all (is_own_row 0) rows ≡ true) = and_parts (is_own_row 0 r) (list_all (is_own_row 0) rows) o in
      (own_term_value 0 v w (λ x h. a x (under_own x h)) r.term q.0, own_same rows q.1)

  thread_same : (k : ℕ) (rows : List Row) → list_all (is_own_row 0) rows ≡ true → AllByRecursion (λ (r : Row). value v r.term ≡ value w r.term) (map (row_of_thread k 0) rows)
  thread_same k [] o = tt
  thread_same k (r ∷ rows) o =
      let q : (is_own_row 0 r ≡ true) × (list_all (is_own_row 0) rows ≡ true) = and_parts (is_own_row 0 r) (list_all (is_own_row 0) rows) o in (
        thread_value v k 0 r.term
            ∙ (own_term_value 0 (λ (x : Var). v (of_thread k 0 x)) (λ (x : Var). w (of_thread k 0 x)) (λ x h. a (of_thread k 0 x) (under_thread k x h)) r.term q.0
            ∙ sym (thread_value w k 0 r.term)),
        thread_same k rows q.1,
      )

  each_same : (rows : List Row) (ks : List ℕ) → list_all (is_own_row 0) rows ≡ true → AllByRecursion (λ (r : Row). value v r.term ≡ value w r.term) (rows_of_each rows ks)
  each_same rows [] o = tt
  each_same rows (k ∷ ks) o =
      all_append (λ (r : Row). value v r.term ≡ value w r.term) (map (row_of_thread k 0) rows) (rows_of_each rows ks) (thread_same k rows o) (each_same rows ks o)

  start_same : (setting : Setting) (ks : List ℕ) (ws : List ℕ) → weighted (value v) (rows_at_start setting ks) ws ≡ weighted (value w) (rows_at_start setting ks) ws
  start_same setting ks ws = weighted_same (value v) (value w) (rows_at_start setting ks) ws
      (all_append (λ (r : Row). value v r.term ≡ value w r.term) setting.init_once (rows_of_each setting.init_each ks)
      (own_same setting.init_once (declared_rows_own setting.globals 0 setting.init_once setting.once_declared))
      (each_same setting.init_each ks (declared_rows_own setting.globals setting.locals setting.init_each setting.each_declared)))

keeps_first : Keeps nothing_yet
keeps_first = record {
  havocs = λ v i. variable_value v (Havoc i);
  stays = λ v w a x u. variable_value v x ∙ (a x u ∙ sym (variable_value w x));
}

now_first : (v : Var → ℤ) (x : Var) → now v nothing_yet x ≡ v x
now_first v (Global n) = variable_value v (Global n)
now_first v (Local t n) = variable_value v (Local t n)
now_first v (Havoc i) = let e : 0 + i ≡ i = omega arith in ap (λ (j : ℕ). v (Havoc j)) e

-- ---- members
pub only_one : {X : Type 0} (a x : X) → Contains (a ∷ []) x → a ≡ x
only_one a x h = elim (cons_cases a [] x h) [ inl is ↦ is | inr none ↦ absurd (nothing x none) ]

pub got_among : {X : Type 0} (xs : List X) (i : ℕ) (x : X) → slice_get xs i ≡ Some x → Contains xs x
got_among [] i x e = cc
got_among {X} (y ∷ ys) zero x e = subst (λ (z : X). Contains (y ∷ ys) z) (same_Some y x e) (here y ys)
got_among (y ∷ ys) (suc i) x e = there y ys x (got_among ys i x e)

reversed_from : {X : Type 0} (xs : List X) (x : X) → Contains (reverse xs) x → Contains xs x
reversed_from [] x h = absurd (nothing x h)
reversed_from {X} (y ∷ ys) x h = elim (Contains-append_cases (reverse ys) (y ∷ []) x (subst (λ (zs : List X). Contains zs x) (reverse-cons y ys) h)) [
  | inl later ↦ there y ys x (reversed_from ys x later)
  | inr first ↦ subst (λ (z : X). Contains (y ∷ ys) z) (only_one y x first) (here y ys)
]

from_range : (n a i : ℕ) → Contains (range_with_len a n) i → (a ≤ i) × (i < a + n)
from_range zero a i h = absurd (nothing i h)
from_range (suc n) a i h = elim (cons_cases a (range_with_len (a + 1) n) i h) [
  | inl is ↦ (omega (arith, is), omega (arith, is))
  | inr later ↦ (let w : (a + 1 ≤ i) × (i < (a + 1) + n) = from_range n (a + 1) i later in (omega (arith, w.0), omega (arith, w.1)))
]

from_cuts : (low high i : ℕ) → low ≤ high → Contains (cuts_down low high) i → (low ≤ i) × (i < high)
from_cuts low high i within h =
    let w : (low ≤ i) × (i < low + (high - low)) = from_range (high - low) low i (reversed_from (range_with_len low (high - low)) i h) in
    (w.0, omega (arith, w.1, within))

zip_back : {A B : Type 0} (R : A → B → Type 0) (xs : List A) (ys : List B) (y : B) → AllZip R xs ys → Contains ys y → (x : A) × Contains xs x × R x y
zip_back R [] [] y h c = absurd (nothing y c)
zip_back R [] (b ∷ ys) y h c = absurd h
zip_back R (a ∷ xs) [] y h c = absurd h
zip_back {A} {B} R (a ∷ xs) (b ∷ ys) y h c = elim (cons_cases b ys y c) [
  | inl is ↦ (a, here a xs, subst (λ (z : B). R a z) is h.0)
  | inr later ↦ (let w : (x : A) × Contains xs x × R x y = zip_back R xs ys y h.1 later in (w.0, there a xs w.0 w.1, w.2))
]

dropped_from : {X : Type 0} (n : ℕ) (xs : List X) (x : X) → Contains (drop n xs) x → Contains xs x
dropped_from zero xs x h = h
dropped_from (suc n) [] x h = h
dropped_from (suc n) (y ∷ ys) x h = there y ys x (dropped_from n ys x h)

pub kept_first : {X : Type 0} (xs ys : List X) (x : X) → slice_get xs 0 ≡ Some x → slice_get (xs ++ ys) 0 ≡ Some x
kept_first [] ys x e = cc
kept_first (y ∷ xs) ys x e = e

-- ---- the whole
module _ (graph : Graph) (letters : List (ℕ × ℕ)) (lambda : List ℕ)
    (edges : AllByRecursion (λ (l : ℕ × ℕ). l.1 < length graph.edges) letters) (refutes : Refutes (rows_of graph letters) lambda) where
  abbrev trace : List (ℕ × ℕ)
  trace = trace_of graph.edges letters

  abbrev starts : List Row
  starts = rows_at_start graph.setting (threads_in_trace (trace_of graph.edges letters))

  abbrev afters : List Row
  afters = rows_after graph nothing_yet letters

  abbrev ws : List ℕ
  ws = letter_weights graph.setting (trace_of graph.edges letters) lambda

  rows_are : rows_of graph letters ≡ starts ++ afters
  rows_are = ap (λ (ks : List ℕ). rows_at_start graph.setting ks ++ rows_after graph nothing_yet letters) (sym (same_threads graph.edges [] letters))

  refuted : Refutes (starts ++ afters) lambda
  refuted = subst (λ (rows : List Row). Refutes rows lambda) rows_are refutes

  abbrev c : ℤ
  c = (plus_rows (number_term (pos 0)) (rows_at_start graph.setting (threads_in_trace (trace_of graph.edges letters)) ++ rows_after graph nothing_yet letters) lambda).constant

  lambda_long : length lambda ≡ length starts + length afters
  lambda_long = refuted.lengths ∙ length-append starts afters

  start_there : length starts ≤ length lambda
  start_there = let e : length lambda ≡ length starts + length afters = lambda_long in omega (arith, e)

  ws_long : length ws ≡ length afters
  ws_long = length-drop (length starts) lambda ∙ (let e : length lambda ≡ length starts + length afters = lambda_long in omega (arith, e))

  agree : AllByRecursion (λ (l : ℕ × ℕ). form_at graph l.1 ≡ form_in graph.setting (command_of_edge graph.edges l.1)) letters
  agree = all_agree graph letters edges

  enough : row_total graph.setting trace ≤ length ws
  enough =
      let e : length (rows_after graph nothing_yet letters) ≡ row_total graph.setting (trace_of graph.edges letters) = after_long graph nothing_yet letters agree in
      let f : length ws ≡ length afters = ws_long in
      omega (arith, e, f)

  parts : (v : Var → ℤ) → (weighted (value v) starts (take (length starts) lambda) +ℤ weighted (value v) afters ws) ≡ c
  parts v = sym (split_weights (value v) starts afters lambda start_there) ∙ refuted_worth v (starts ++ afters) lambda refuted

  summed : Total graph letters ws nothing_yet
  summed = total_from graph letters c ws nothing_yet keeps_first agree ws_long
      (λ v. weighted (value v) starts (take (length starts) lambda))
      (λ v w a. start_same v w a graph.setting (threads_in_trace trace) (take (length starts) lambda)) parts

  is_sum : (cut : ℕ) → IsSum graph.setting (sum_at (letters_of graph.setting trace lambda) cut)
  is_sum cut = record {
    canonical = sum_canonical_at graph.setting trace ws cut;
    free = each_sum HasNoHavoc (letters_of graph.setting trace lambda) (λ i. refl) summed.free cut;
    vars = sum_vars_at graph.setting trace ws cut;
  }

  start_total : (v : Var → ℤ) → (weighted (value v) starts lambda +ℤ value v (sum_at (letters_of graph.setting trace lambda) 0)) ≡ c
  start_total v =
      ap₂ (λ (y z : ℤ). y +ℤ z) (sym (weighted_take (value v) starts lambda))
      (ap (value v) (sym (first_is (letters_of graph.setting trace lambda)))
      ∙ (ap (λ (f : Var → ℤ). value f (first_sum (letters_of graph.setting trace lambda))) (λ j x. sym (now_first v x) j)
      ∙ sym (summed.worth v)))
      ∙ parts v

  commands_there : (ls : List (ℕ × ℕ)) → AllByRecursion (λ (l : ℕ × ℕ). l.1 < length graph.edges) ls → AllByRecursion (λ (l : ℕ × ℕ). l.1 < length graph.setting.commands) (trace_of graph.edges ls)
  commands_there [] h = tt
  commands_there (l ∷ ls) h = (one (there_is graph.edges l.1 h.0), commands_there ls h.1)
    where
      one : (e : Edge) × (slice_get graph.edges l.1 ≡ Some e) → command_of_edge graph.edges l.1 < length graph.setting.commands
      one (e, is) =
          subst (λ (o : Option Edge). unwrap_or (option_map (λ (e : Edge). e.command) o) 0 < length graph.setting.commands) (sym is)
          (subst (λ (x : Edge). x.command < length graph.setting.commands) (get_or_from_slice_get graph.edges l.1 e e is) (has_command graph l.1 e h.0))

  there_of : (i : ℕ) (l : ℕ × ℕ) → slice_get trace i ≡ Some l → l.1 < length graph.setting.commands
  there_of i l e = all-contains (λ (l : ℕ × ℕ). l.1 < length graph.setting.commands) trace l (commands_there letters edges) (got_among trace i l e)

  -- no havoc is left in a sum
  pub free : (cut : ℕ) → HasNoHavoc (sum_at (letters_of graph.setting (trace_of graph.edges letters) lambda) cut)
  free cut = (is_sum cut).free

  -- as many multipliers as rows: those at the start, and those of the letters
  pub multipliers_long : length lambda ≡ length (rows_at_start graph.setting (threads_in_trace (trace_of graph.edges letters))) + row_total graph.setting (trace_of graph.edges letters)
  multipliers_long = lambda_long ∙ ap (λ (n : ℕ). length starts + n) (after_long graph nothing_yet letters agree)

  -- a triple of a letter, and the initial entry, hold where no value of theirs is past 128 bits
  module _ (list : List Predicate) (first : slice_get list 0 ≡ Some false_predicate) where
    pub triple_at_holds : (i : ℕ) (e : Entry) → IsTripleAt (letters_of graph.setting (trace_of graph.edges letters) lambda) list i e →
        (¬ IsFalseSum (sum_at (letters_of graph.setting (trace_of graph.edges letters) lambda) i)) → EntryFits graph.setting list e → EntryHolds graph.setting list e
    triple_at_holds i e t some fits = subst (EntryHolds graph.setting list) (sym t.is)
        (triple_holds graph.setting list first t.letter (there_of i (t.letter.thread, t.letter.command) l.letter) l.is
        (weights_long graph.setting trace ws i t.letter enough t.stands)
        (subst (IsSum graph.setting) (sym l.before) (is_sum i)) (subst (IsSum graph.setting) (sym l.after) (is_sum (suc i)))
        (λ f. some (subst IsFalseSum l.before f))
        t.after t.stands_after t.before t.stands_before
        (λ b is s c. threads_tied graph.setting list trace ws i t.letter l t.after t.stands_after b (subst (StandsAt list t.letter.before) is t.stands_before) s c)
        (subst (EntryFits graph.setting list) t.is fits))
      where
        l : IsLetter graph.setting trace (letters_of graph.setting trace lambda) i t.letter
        l = letter_at graph.setting trace ws i t.letter t.stands

    pub initial_at_holds : (q : Interpolant) → StandsAt list (sum_at (letters_of graph.setting (trace_of graph.edges letters) lambda) 0) (Some q) →
        EntryFits graph.setting list (initial_of graph.setting (trace_of graph.edges letters) lambda q) → EntryHolds graph.setting list (initial_of graph.setting (trace_of graph.edges letters) lambda q)
    initial_at_holds q stands fits =
        initial_holds graph.setting list first trace lambda start_there (sum_at (letters_of graph.setting trace lambda) 0) (is_sum 0) c
        (refuted_positive (starts ++ afters) lambda refuted) start_total q stands fits

  module _ (known new : List Predicate) (entries : List Entry) (false_first : slice_get known 0 ≡ Some false_predicate)
      (m : IsInterpolation graph.setting known (trace_of graph.edges letters) lambda new entries) where
    abbrev list : List Predicate
    list = known ++ new

    first_of_list : slice_get list 0 ≡ Some false_predicate
    first_of_list = kept_first known new false_predicate false_first

    of_false : (e : Entry) → Contains (false_triples graph.setting (drop m.high trace)) e → EntryHolds graph.setting list e
    of_false e h = at (from_mapped (λ (l : ℕ × ℕ). false_triple graph.setting l.1) (reverse (drop m.high trace)) e h)
      where
        at : (l : ℕ × ℕ) × Contains (reverse (drop m.high trace)) l × (false_triple graph.setting l.1 ≡ e) → EntryHolds graph.setting list e
        at (l, i, is) = subst (EntryHolds graph.setting list) is
            (false_holds graph.setting list first_of_list l.1
            (all-contains (λ (l : ℕ × ℕ). l.1 < length graph.setting.commands) trace l (commands_there letters edges)
            (dropped_from m.high trace l (reversed_from (drop m.high trace) l i))))

    of_triple : (e : Entry) → Contains m.triples e → EntryHolds graph.setting list e
    of_triple e h = at (zip_back (IsTripleAt (letters_of graph.setting trace lambda) list) (cuts_down m.low m.high) m.triples e m.made.triples_are h)
      where
        at : (i : ℕ) × Contains (cuts_down m.low m.high) i × IsTripleAt (letters_of graph.setting trace lambda) list i e → EntryHolds graph.setting list e
        at (i, among, t) = triple_at_holds list first_of_list i e t (λ f. m.bounds.least i (from_cuts m.low m.high i m.bounds.within among).1 f)
            (All-contains (EntryFits graph.setting list) m.triples e m.made.triples_fit h)

    of_initial : (e : Entry) → Contains m.initial e → EntryHolds graph.setting list e
    of_initial e h = elim m.initial_is [
      | inl none ↦ absurd (nothing e (subst (λ (es : List Entry). Contains es e) none.1 h))
      | inr one ↦ at one.0 one.1 one.3 one.4 m.bounds.starts
    ]
      where
        at : (q : Interpolant) → StandsAt list (sum_at (letters_of graph.setting trace lambda) m.low) (Some q) → EntryFits graph.setting list (initial_of graph.setting trace lambda q) →
            m.initial ≡ initial_of graph.setting trace lambda q ∷ [] → (m.low ≡ 0) ⊎ ((m.low < m.high) × IsTrivialSum (sum_at (letters_of graph.setting trace lambda) m.low)) → EntryHolds graph.setting list e
        at q stands fits is (inr trivial) = absurd (nothing_stands list (sum_at (letters_of graph.setting trace lambda) m.low) q trivial.1 stands)
        at q stands fits is (inl zero_is) =
            subst (EntryHolds graph.setting list) (only_one (initial_of graph.setting trace lambda q) e (subst (λ (es : List Entry). Contains es e) is h))
            (initial_at_holds list first_of_list q (subst (λ (i : ℕ). StandsAt list (sum_at (letters_of graph.setting trace lambda) i) (Some q)) zero_is stands) fits)

    pub holds : (e : Entry) → Contains entries e → EntryHolds graph.setting (known ++ new) e
    holds e h = elim (Contains-append_cases (false_triples graph.setting (drop m.high trace)) (m.triples ++ m.initial) e (first_from [] (false_triples graph.setting (drop m.high trace) ++ (m.triples ++ m.initial)) entries e m.first h)) [
      | inl first ↦ of_false e first
      | inr rest ↦ elim (Contains-append_cases m.triples m.initial e rest) [
        | inl middle ↦ of_triple e middle
        | inr last ↦ of_initial e last
      ]
    ]
