-- The triple from false to false, and the initial entry, hold.
use Rattle.std.proofs.Common.{◌≡◌, ◌≢◌, sym, ap, ◌∙◌, subst, ℕ, suc, ◌<◌, ◌≤◌, ◌+◌, ℤ, pos, negsuc, ◌*ℤ◌, ◌+ℤ◌, ◌-ℤ◌, ◌≤ℤ◌, neg_ℤ, FitsSigned, List, [], ◌∷◌, ◌++◌, length, length-append, map, inl, inr, ◌⊎◌, Contains, arith}
use Rattle.std.specs.Int.{w128}
use Rattle.std.specs.Prelude.{slice_get, Some}
use Rattle.std.proofs.lemmas.Int.{ints}
use Rattle.std.proofs.lemmas.List.{length-map}
use Rattle.std.proofs.lemmas.List.Elements.{All-nil, All-cons}
use Rattle.std.proofs.lemmas.Option.{get_or_from_slice_get, slice_get_within}
use Rattle.ps_atom.specs.Atoms.{at_threads}
use Rattle.ps_atom.specs.Numbers.{false_predicate}
use Rattle.ps_atom.specs.Range.{IsInRange}
use Rattle.ps_atom.specs.declared.predicate.Predicate.{Predicate}
use Rattle.ps_atom.proofs.Chains.{IsChain, chain_from_pairs}
use Rattle.ps_command.specs.declared.setting.Setting.{Setting}
use Rattle.ps_farkas.specs.Refutes.{Refutes, SumsFit, weighted}
use Rattle.ps_interp.specs.Entries.{false_triple, initial_of, place_in}
use Rattle.ps_interp.specs.Interpolants.{Interpolant, StandsAt, false_interpolant, interpolant_row}
use Rattle.ps_interp.specs.Weights.{initial_weights, zeros}
use Rattle.ps_term.specs.Negation.{NegationFits}
use Rattle.ps_term.specs.Pairs.{coefficient}
use Rattle.ps_term.specs.Substitution.{SubstitutionFits}
use Rattle.ps_term.specs.Sums.{ScaledFits}
use Rattle.ps_term.specs.Term.{value}
use Rattle.ps_term.specs.declared.row.Row.{Row}
use Rattle.ps_term.specs.declared.term.Term.{Term}
use Rattle.ps_term.specs.declared.var.Var.{Var}
use Rattle.ps_term.proofs.Ring.{one-mul, zero-mul}
use Rattle.ps_trace.specs.Rows.{rows_at_start, threads_in_trace}
use Rattle.ps_triple.specs.Entries.{false_atom}
use Rattle.ps_triple.specs.Faults.{EntryHolds}
use Rattle.ps_triple.specs.Fits.{EntryFits}
use Rattle.ps_triple.specs.Places.{row_by}
use Rattle.ps_triple.specs.Rows.{atom_row, form_in, negated, predicate_of, row_after, rows_of_threads}
use Rattle.ps_triple.specs.Tests.{HasThreadsOnce, IsAtomOf, IsTiedTo}
use Rattle.ps_interp.proofs.Beginning.{at_slots, entry_long, entry_worth, own_slots}
use Rattle.ps_interp.proofs.Holding.{IsSum, distinct_slots, false_there, in_range}
use Rattle.ps_interp.proofs.Triples.{Weighs, bare_worth, negated_worth, one_minus, weighs}
use Rattle.ps_interp.proofs.Worth.{refutes_by_worth}

-- ---- from false to false
unchanged : (s c : ℤ) → FitsSigned w128 s → ScaledFits s (pos 0) c
unchanged s c h = (
  subst (FitsSigned w128) (sym (zero-mul c)) (record { sfits = omega (arith, ints) }),
  subst (FitsSigned w128) (let z : pos 0 *ℤ c ≡ pos 0 = zero-mul c in let e : s ≡ (s +ℤ (pos 0 *ℤ c)) = omega (arith, ints, z) in e) h,
)

zeros_fit : (part : Term → ℤ) (s : ℤ) (rows : List Row) (last : Row) → FitsSigned w128 s → SumsFit part s (rows ++ last ∷ []) (zeros rows ++ 0 ∷ [])
zeros_fit part s [] last h = (unchanged s (part last.term) h, tt)
zeros_fit part s (r ∷ rows) last h = (
  unchanged s (part r.term) h,
  subst (λ (z : ℤ). SumsFit part z (rows ++ last ∷ []) (zeros rows ++ 0 ∷ [])) (let z : pos 0 *ℤ part r.term ≡ pos 0 = zero-mul (part r.term) in let e : s ≡ (s +ℤ (pos 0 *ℤ part r.term)) = omega (arith, ints, z) in e)
      (zeros_fit part s rows last h),
)

zeros_worth : (v : Var → ℤ) (rows : List Row) (last : Row) → weighted (value v) (rows ++ last ∷ []) (zeros rows ++ 0 ∷ []) ≡ pos 0
zeros_worth v [] last = let z : pos 0 *ℤ value v last.term ≡ pos 0 = zero-mul (value v last.term) in let e : ((pos 0 *ℤ value v last.term) +ℤ pos 0) ≡ pos 0 = omega (arith, ints, z) in e
zeros_worth v (r ∷ rows) last =
    let z : pos 0 *ℤ value v r.term ≡ pos 0 = zero-mul (value v r.term) in
    let rest : weighted (value v) (rows ++ last ∷ []) (zeros rows ++ 0 ∷ []) ≡ pos 0 = zeros_worth v rows last in
    omega (arith, ints, z, rest)

small_fits : (z : ℤ) → negsuc 0 ≤ℤ z → z ≤ℤ pos 1 → FitsSigned w128 z
small_fits (pos n) low high = record { sfits = omega (arith, ints, high) }
small_fits (negsuc n) low high = record { sfits = omega (arith, ints, low) }

module _ (setting : Setting) (list : List Predicate) (first : slice_get list 0 ≡ Some false_predicate) where
  false_row : atom_row list false_atom ≡ record { term = record { pairs = []; constant = pos 1 } }
  false_row = ap (λ (p : Predicate). row_of_false p) (get_or_from_slice_get list 0 false_predicate false_predicate first)
    where
      row_of_false : Predicate → Row
      row_of_false p = row_by (at_threads []) p.row

  pub false_holds : (command : ℕ) → command < length setting.commands → EntryHolds setting list (false_triple setting command)
  false_holds command there = record {
    names = (there, All-cons (IsAtomOf setting list) false_atom [] (false_there setting list first) (All-nil (IsAtomOf setting list)), false_there setting list first);
    distinct = (All-cons HasThreadsOnce false_atom [] (λ i j d lt within. absurd (omega (arith, within))) (All-nil HasThreadsOnce), λ i j d lt within. absurd (omega (arith, within)));
    tied = All-cons (IsTiedTo []) false_atom [] (All-nil (λ (n : ℕ). (n ≡ 0) ⊎ Contains [] n)) (All-nil (IsTiedTo []));
    fits = (making, (variables, constants));
    refutes = refutes_by_worth (atom_row list false_atom ∷ ((form_in setting command).rows ++ last ∷ [])) (1 ∷ (zeros (form_in setting command).rows ++ 0 ∷ [])) (pos 1)
        (ap suc (length-append (zeros (form_in setting command).rows) (0 ∷ []) ∙ (ap (λ (n : ℕ). n + 1) (length-map (form_in setting command).rows (λ _. 0)) ∙ sym (length-append (form_in setting command).rows (last ∷ [])))))
        (omega (arith, ints)) worth;
  }
    where
      last : Row
      last = row_after (form_in setting command) (negated (atom_row list false_atom))

      making : NegationFits (atom_row list false_atom) × SubstitutionFits (form_in setting command).after (negated (atom_row list false_atom)).term
      making = subst (λ (r : Row). NegationFits r × SubstitutionFits (form_in setting command).after (negated r).term) (sym false_row) (
        (All-nil (λ (p : Var × ℤ). FitsSigned w128 (neg_ℤ p.1)), small_fits (negsuc 0) (omega (arith, ints)) (omega (arith, ints)), small_fits (pos 0) (omega (arith, ints)) (omega (arith, ints))),
        small_fits (pos 0) (omega (arith, ints)) (omega (arith, ints)),
      )

      one : (part : Term → ℤ) → negsuc 0 ≤ℤ part (atom_row list false_atom).term → part (atom_row list false_atom).term ≤ℤ pos 1 →
          SumsFit part (pos 0) (atom_row list false_atom ∷ ((form_in setting command).rows ++ last ∷ [])) (1 ∷ (zeros (form_in setting command).rows ++ 0 ∷ []))
      one part low high =
          let e : pos 1 *ℤ part (atom_row list false_atom).term ≡ part (atom_row list false_atom).term = one-mul (part (atom_row list false_atom).term) in
          let f : (pos 0 +ℤ (pos 1 *ℤ part (atom_row list false_atom).term)) ≡ part (atom_row list false_atom).term = omega (arith, ints, e) in
          let s : FitsSigned w128 (part (atom_row list false_atom).term) = small_fits (part (atom_row list false_atom).term) low high in (
            (subst (FitsSigned w128) (sym e) s, subst (FitsSigned w128) (sym f) s),
            zeros_fit part (pos 0 +ℤ (pos 1 *ℤ part (atom_row list false_atom).term)) (form_in setting command).rows last (subst (FitsSigned w128) (sym f) s),
          )

      variables : (x : Var) → SumsFit (λ t. coefficient x t.pairs) (pos 0) (atom_row list false_atom ∷ ((form_in setting command).rows ++ last ∷ [])) (1 ∷ (zeros (form_in setting command).rows ++ 0 ∷ []))
      variables x = let e : coefficient x (atom_row list false_atom).term.pairs ≡ pos 0 = ap (λ (r : Row). coefficient x r.term.pairs) false_row in
          one (λ t. coefficient x t.pairs) (omega (arith, ints, e)) (omega (arith, ints, e))

      constants : SumsFit (λ t. t.constant) (pos 0) (atom_row list false_atom ∷ ((form_in setting command).rows ++ last ∷ [])) (1 ∷ (zeros (form_in setting command).rows ++ 0 ∷ []))
      constants = let e : (atom_row list false_atom).term.constant ≡ pos 1 = ap (λ (r : Row). r.term.constant) false_row in
          one (λ t. t.constant) (omega (arith, ints, e)) (omega (arith, ints, e))

      summed : (a b : ℤ) → a ≡ pos 1 → b ≡ pos 0 → ((pos 1 *ℤ a) +ℤ b) ≡ pos 1
      summed a b e f = omega (arith, ints, e, f, one-mul a)

      worth : (v : Var → ℤ) → weighted (value v) (atom_row list false_atom ∷ ((form_in setting command).rows ++ last ∷ [])) (1 ∷ (zeros (form_in setting command).rows ++ 0 ∷ [])) ≡ pos 1
      worth v = summed (value v (atom_row list false_atom).term) (weighted (value v) ((form_in setting command).rows ++ last ∷ []) (zeros (form_in setting command).rows ++ 0 ∷ []))
          (ap (λ (r : Row). value v r.term) false_row) (zeros_worth v (form_in setting command).rows last)

  -- ---- at the start
  module _ (trace : List (ℕ × ℕ)) (lambda : List ℕ) (long : length (rows_at_start setting (threads_in_trace trace)) ≤ length lambda)
      (sum : Term) (s : IsSum setting sum) (c : ℤ) (positive : pos 1 ≤ℤ c)
      (total : (v : Var → ℤ) → (weighted (value v) (rows_at_start setting (threads_in_trace trace)) lambda +ℤ value v sum) ≡ c) where
    pub initial_holds : (q : Interpolant) → StandsAt list sum (Some q) → EntryFits setting list (initial_of setting trace lambda q) → EntryHolds setting list (initial_of setting trace lambda q)
    initial_holds q (inl bare) fits = subst (λ (r : Interpolant). EntryFits setting list (initial_of setting trace lambda r) → EntryHolds setting list (initial_of setting trace lambda r)) (sym bare.1) of_false fits
      where
        is : predicate_of list 0 ≡ false_predicate
        is = get_or_from_slice_get list 0 false_predicate false_predicate first

        of_false : EntryFits setting list (initial_of setting trace lambda false_interpolant) → EntryHolds setting list (initial_of setting trace lambda false_interpolant)
        of_false fits = record {
          names = (false_there setting list first).0;
          distinct = tt;
          tied = tt;
          fits = fits;
          refutes = subst (λ (p : Predicate). Refutes (setting.init_once ++ (rows_of_threads setting.init_each (p.arity + 1) ++ negated p.row ∷ [])) (initial_weights setting trace lambda [] ++ 0 ∷ [])) (sym is)
              (refutes_by_worth (setting.init_once ++ (rows_of_threads setting.init_each (0 + 1) ++ negated false_predicate.row ∷ [])) (initial_weights setting trace lambda [] ++ 0 ∷ []) (c -ℤ sum.constant)
              (entry_long setting trace lambda long [] tt (negated false_predicate.row) 0)
              (let k : sum.constant ≤ℤ pos 0 = bare.0.1 in omega (arith, ints, k, positive))
              (λ v. entry_worth setting trace lambda long [] tt v (negated false_predicate.row) 0
              ∙ bare_rest (weighted (value (at_slots v [])) (rows_at_start setting (threads_in_trace trace)) lambda) (value v (negated false_predicate.row).term) (value (at_slots v []) sum)
              (total (at_slots v [])) (bare_worth (at_slots v []) sum bare.0.0)));
        }
          where
            bare_rest : (a z k : ℤ) → (a +ℤ k) ≡ c → k ≡ sum.constant → (a +ℤ (pos 0 *ℤ z)) ≡ (c -ℤ sum.constant)
            bare_rest a z k e f = omega (arith, ints, e, f, zero-mul z)
    initial_holds q (inr known) fits = record {
      names = (slice_get_within list q.atom.predicate known.0.0 known.0.2.stands, subst (λ (p : Predicate). IsInRange setting.globals setting.locals p) (sym is) range);
      distinct = tt;
      tied = tt;
      fits = fits;
      refutes = subst (λ (p : Predicate). Refutes (setting.init_once ++ (rows_of_threads setting.init_each (p.arity + 1) ++ negated p.row ∷ [])) (initial_weights setting trace lambda q.atom.threads ++ q.divisor ∷ [])) (sym is)
          (subst (λ (n : ℕ). Refutes (setting.init_once ++ (rows_of_threads setting.init_each (n + 1) ++ negated known.0.0.row ∷ [])) (initial_weights setting trace lambda q.atom.threads ++ q.divisor ∷ [])) (sym known.0.1.2.in_slots.arity)
          (refutes_by_worth (setting.init_once ++ (rows_of_threads setting.init_each (length q.atom.threads + 1) ++ negated known.0.0.row ∷ [])) (initial_weights setting trace lambda q.atom.threads ++ q.divisor ∷ [])
          (c +ℤ ((pos q.divisor -ℤ pos 1) -ℤ w.slack))
          (entry_long setting trace lambda long q.atom.threads apart (negated known.0.0.row) q.divisor)
          (let h : (w.slack +ℤ pos 1) ≤ℤ pos q.divisor = w.high in omega (arith, ints, h, positive))
          (λ v. entry_worth setting trace lambda long q.atom.threads apart v (negated known.0.0.row) q.divisor
          ∙ known_rest (weighted (value (at_slots v q.atom.threads)) (rows_at_start setting (threads_in_trace trace)) lambda) (value v (negated known.0.0.row).term) (value v known.0.0.row.term) (value (at_slots v q.atom.threads) sum)
          (total (at_slots v q.atom.threads)) (negated_worth v known.0.0.row)
          (ap (λ (z : ℤ). pos q.divisor *ℤ z) (sym (own_slots v setting.globals setting.locals known.0.0 q.atom.threads known.0.1.2.in_slots.arity apart range.1))
          ∙ (ap (λ (p : Predicate). pos q.divisor *ℤ value v (row_by (at_threads (map (place_in q.atom.threads) q.atom.threads)) p.row).term) (sym is)
          ∙ w.worth (place_in q.atom.threads) v)))));
    }
      where
        is : predicate_of list q.atom.predicate ≡ known.0.0
        is = get_or_from_slice_get list q.atom.predicate known.0.0 false_predicate known.0.2.stands

        range : IsInRange setting.globals setting.locals known.0.0
        range = in_range setting list first sum s known.0.0 q.atom.threads known.0.1.2 known.0.1.1

        w : Weighs setting.globals setting.locals list sum q
        w = weighs setting.globals setting.locals list sum q known.0.0 known.0.2.stands known.0.1.2 range known.1

        apart : IsChain (λ (a b : ℕ). a ≢ b) q.atom.threads
        apart = chain_from_pairs (λ (a b : ℕ). a ≢ b) q.atom.threads (distinct_slots (interpolant_row sum) known.0.0 q.atom.threads known.0.1.2)

        known_rest : (a n r k : ℤ) → (a +ℤ k) ≡ c → n ≡ (pos 1 -ℤ r) → (pos q.divisor *ℤ r) ≡ ((pos 1 -ℤ k) +ℤ w.slack) → (a +ℤ (pos q.divisor *ℤ n)) ≡ (c +ℤ ((pos q.divisor -ℤ pos 1) -ℤ w.slack))
        known_rest a n r k e f g =
            let m : (pos q.divisor *ℤ n) ≡ (pos q.divisor -ℤ (pos q.divisor *ℤ r)) = ap (λ (z : ℤ). pos q.divisor *ℤ z) f ∙ one_minus (pos q.divisor) r in
            omega (arith, ints, e, g, m)
