-- The triples of an interpolation hold.
use Rattle.std.proofs.Common.{◌≡◌, ◌≢◌, refl, sym, ap, ◌∙◌, subst, ℕ, ◌<◌, ◌≤◌, ℤ, pos, negsuc, List, [], ◌∷◌, length, map, inl, inr, ◌⊎◌, All, AllPairs, Contains, get_or, arith}
use Rattle.std.specs.Prelude.{slice_get, slice_index, Option, Some, None}
use Rattle.std.specs.List.{AllByRecursion}
use Rattle.std.specs.declared.cmp.Ordering.TheVariants.{Less}
use Rattle.std.proofs.lemmas.List.{length-map}
use Rattle.std.proofs.lemmas.List.Elements.{All-nil, All-cons, All-from_recursion}
use Rattle.std.proofs.lemmas.Option.{get_or_from_slice_get, slice_get_within}
use Rattle.ps_list.proofs.Mapped.{mapped, from_mapped}
use Rattle.ps_atom.specs.Canonical.{IsCanonicalOf}
use Rattle.ps_atom.specs.Numbers.{false_predicate}
use Rattle.ps_atom.specs.Range.{IsDeclared, IsInRange, IsKnown}
use Rattle.ps_atom.specs.Threads.{thread_cmp}
use Rattle.ps_atom.specs.declared.atom.Atom.{Atom}
use Rattle.ps_atom.specs.declared.predicate.Predicate.{Predicate}
use Rattle.ps_atom.proofs.Ranges.{canonical_in_range}
use Rattle.ps_atom.proofs.RenamedAtoms.{renamed_apart}
use Rattle.ps_atom.proofs.Slotting.{less_irr}
use Rattle.ps_atom.proofs.Tightness.{all_members}
use Rattle.ps_command.specs.declared.setting.Setting.{Setting}
use Rattle.ps_command.specs.declared.symbolic_form.SymbolicForm.{SymbolicForm}
use Rattle.ps_interp.specs.Cuts.{IsFalseSum}
use Rattle.ps_interp.specs.Entries.{numbered_threads, place_in, triple_of, with_numbers}
use Rattle.ps_interp.specs.Interpolants.{Interpolant, StandsAt, interpolant_row}
use Rattle.ps_interp.specs.Sums.{Weighed, sum_before}
use Rattle.ps_term.specs.Exact.{number_term}
use Rattle.ps_term.specs.Pairs.{IsCanonical, coefficient}
use Rattle.ps_term.specs.declared.row.Row.{Row}
use Rattle.ps_term.specs.declared.term.Term.{Term}
use Rattle.ps_term.specs.declared.var.Var.{Var}
use Rattle.ps_term.specs.declared.var.Var.TheVariants.{Global, Local, Havoc}
use Rattle.ps_triple.specs.Entries.{false_atom}
use Rattle.ps_triple.specs.Faults.{EntryHolds}
use Rattle.ps_triple.specs.Fits.{EntryFits}
use Rattle.ps_triple.specs.Rows.{form_in, predicate_of}
use Rattle.ps_triple.specs.Tests.{HasThreadsOnce, IsAtomOf, IsTiedTo}
use Rattle.ps_triple.proofs.Membership.{all_of}
use Rattle.ps_interp.proofs.Letters.{AreVars}
use Rattle.ps_interp.proofs.Slots.{back, slot_named}
use Rattle.ps_interp.proofs.Triples.{Ends, Weighs, ends_false, ends_known, mover_first, refutes_from, refutes_from_nothing, weighs}
use Rattle.ps_interp.proofs.Vars.{HasNoHavoc, IsVarOf, sum_every}

-- ---- an interpolant names declared variables
known_pairs : (setting : Setting) (sum : Term) → IsCanonical sum.pairs → HasNoHavoc sum → AreVars setting sum →
    AllByRecursion (λ (p : Var × ℤ). IsKnown setting.globals setting.locals p.0) sum.pairs
known_pairs setting sum c none vars = go sum.pairs (nonzero sum.pairs c) (all_members sum.pairs c) vars
  where
    nonzero : (qs : List (Var × ℤ)) → IsCanonical qs → AllByRecursion (λ (q : Var × ℤ). q.1 ≢ pos 0) qs
    nonzero [] d = tt
    nonzero (q ∷ qs) d = (d.0, nonzero qs d.2)

    go : (qs : List (Var × ℤ)) → AllByRecursion (λ (q : Var × ℤ). q.1 ≢ pos 0) qs → AllByRecursion (λ (q : Var × ℤ). coefficient q.0 sum.pairs ≡ q.1) qs →
        AllByRecursion (λ (p : Var × ℤ). IsVarOf setting.globals setting.locals (λ t. Unit {0}) p.0) qs → AllByRecursion (λ (p : Var × ℤ). IsKnown setting.globals setting.locals p.0) qs
    go [] z a v = tt
    go ((Global n, m) ∷ qs) z a v = (v.0, go qs z.1 a.1 v.1)
    go ((Local t n, m) ∷ qs) z a v = (v.0.1, go qs z.1 a.1 v.1)
    go ((Havoc i, m) ∷ qs) z a v = absurd (z.0 (sym a.0 ∙ none i))

pub known_row : (setting : Setting) (sum : Term) → IsCanonical sum.pairs → HasNoHavoc sum → AreVars setting sum →
    All (λ (p : Var × ℤ). IsKnown setting.globals setting.locals p.0) (interpolant_row sum).term.pairs
known_row setting sum c none vars =
    All-from_recursion (λ (p : Var × ℤ). IsKnown setting.globals setting.locals p.0) (interpolant_row sum).term.pairs
    (sum_every (IsKnown setting.globals setting.locals) (number_term (pos 1)) (negsuc 0) sum tt (known_pairs setting sum c none vars))

-- ---- the threads of a canonical predicate are distinct
pub distinct_slots : (row : Row) (p : Predicate) (ts : List ℕ) → IsCanonicalOf row p ts → AllPairs (λ (s t : ℕ). s ≢ t) ts
distinct_slots row p ts c i j d lt within e =
    less_irr c.tight.term.pairs (get_or ts i d) (subst (λ (t : ℕ). thread_cmp c.tight.term.pairs (get_or ts i d) t ≡ Less) (sym e) (c.in_slots.in_order.ordered i j d lt within))

-- ---- what stands at a cut of declared variables
-- a sum of declared variables, in which no havoc is left
pub record IsSum (setting : Setting) (sum : Term) : Type 0 where
  pub canonical : IsCanonical sum.pairs
  pub free : HasNoHavoc sum
  pub vars : AreVars setting sum

module _ (setting : Setting) (list : List Predicate) (first : slice_get list 0 ≡ Some false_predicate) where
  pub false_there : IsAtomOf setting list false_atom
  false_there = (
    (
      slice_get_within list 0 false_predicate first,
      subst (λ (p : Predicate). IsInRange setting.globals setting.locals p) (sym (get_or_from_slice_get list 0 false_predicate false_predicate first)) (omega arith, All-nil (λ (p : Var × ℤ). IsDeclared setting.globals setting.locals 0 p.0)),
    ),
    ap (λ (p : Predicate). p.arity) (sym (get_or_from_slice_get list 0 false_predicate false_predicate first)),
  )

  pub in_range : (sum : Term) → IsSum setting sum → (p : Predicate) (ts : List ℕ) → IsCanonicalOf (interpolant_row sum) p ts → length ts ≤ 4 → IsInRange setting.globals setting.locals p
  in_range sum s p ts c few = canonical_in_range setting.globals setting.locals (interpolant_row sum) p ts c few (known_row setting sum s.canonical s.free s.vars)

  -- its atom, with threads by number, names what is there
  pub atom_there : (sum : Term) (q : Interpolant) (names : List ℕ) → IsSum setting sum → StandsAt list sum (Some q) → IsAtomOf setting list (with_numbers names q.atom)
  atom_there sum q names s (inl bare) = subst (λ (r : Interpolant). IsAtomOf setting list (with_numbers names r.atom)) (sym bare.1) false_there
  atom_there sum q names s (inr known) = (
    (
      slice_get_within list q.atom.predicate known.0.0 known.0.2.stands,
      subst (λ (p : Predicate). IsInRange setting.globals setting.locals p) (sym is) (in_range sum s known.0.0 q.atom.threads known.0.1.2 known.0.1.1),
    ),
    length-map q.atom.threads (place_in names) ∙ (sym known.0.1.2.in_slots.arity ∙ ap (λ (p : Predicate). p.arity) (sym is)),
  )
    where
      is : predicate_of list q.atom.predicate ≡ known.0.0
      is = get_or_from_slice_get list q.atom.predicate known.0.0 false_predicate known.0.2.stands

  -- which are distinct
  pub atom_once : (sum : Term) (q : Interpolant) (names : List ℕ) → StandsAt list sum (Some q) → ((t : ℕ) → Contains q.atom.threads t → Contains names t) → HasThreadsOnce (with_numbers names q.atom)
  atom_once sum q names (inl bare) h = subst (λ (r : Interpolant). HasThreadsOnce (with_numbers names r.atom)) (sym bare.1) (λ i j d lt within. absurd (omega (arith, within)))
  atom_once sum q names (inr known) h =
      renamed_apart (place_in names) q.atom.threads (λ s t i j e. sym (back names s (h s i)) ∙ (ap (slice_index names) e ∙ back names t (h t j)))
      (distinct_slots (interpolant_row sum) known.0.0 q.atom.threads known.0.1.2)

  pub atom_tied : (k : ℕ) (after before : Atom) → ((t : ℕ) → Contains before.threads t → (t ≡ k) ⊎ Contains after.threads t) →
      IsTiedTo (with_numbers (numbered_threads k after.threads) after).threads (with_numbers (numbered_threads k after.threads) before)
  atom_tied k after before h = all_of (λ (n : ℕ). (n ≡ 0) ⊎ Contains (map (place_in names) after.threads) n) (map (place_in names) before.threads)
      (λ n i. at n (from_mapped (place_in names) before.threads n i))
    where
      names : List ℕ
      names = numbered_threads k after.threads

      at : (n : ℕ) → (t : ℕ) × Contains before.threads t × (place_in names t ≡ n) → (n ≡ 0) ⊎ Contains (map (place_in names) after.threads) n
      at n (t, i, e) = elim (h t i) [
        | inl is ↦ inl (sym e ∙ (ap (place_in names) is ∙ mover_first k after.threads))
        | inr j ↦ inr (subst (λ (m : ℕ). Contains (map (place_in names) after.threads) m) e (mapped (place_in names) after.threads t j))
      ]

  -- ---- what it is worth
  pub ends_of : (k : ℕ) (form : SymbolicForm) (sum : Term) (q : Interpolant) → IsSum setting sum → StandsAt list sum (Some q) → Ends list k form sum q
  ends_of k form sum q s (inl bare) = subst (λ (r : Interpolant). Ends list k form sum r) (sym bare.1) (ends_false list k form sum bare.0)
  ends_of k form sum q s (inr known) = ends_known list k setting.globals setting.locals form sum q
      (weighs setting.globals setting.locals list sum q known.0.0 known.0.2.stands known.0.1.2 (in_range sum s known.0.0 q.atom.threads known.0.1.2 known.0.1.1) known.1)

  pub weighs_at : (sum : Term) (q : Interpolant) → IsSum setting sum → (¬ IsFalseSum sum) → StandsAt list sum (Some q) → Weighs setting.globals setting.locals list sum q
  weighs_at sum q s some (inl bare) = absurd (some bare.0)
  weighs_at sum q s some (inr known) =
      weighs setting.globals setting.locals list sum q known.0.0 known.0.2.stands known.0.1.2 (in_range sum s known.0.0 q.atom.threads known.0.1.2 known.0.1.1) known.1

  -- ---- the triple of a letter
  module _ (w : Weighed) (there : w.command < length setting.commands)
      (is : w.before ≡ sum_before w.thread (form_in setting w.command) w.weights w.after)
      (long : length w.weights ≡ length (form_in setting w.command).rows)
      (sum_before : IsSum setting w.before) (sum_after : IsSum setting w.after) (some : ¬ IsFalseSum w.before)
      (after : Interpolant) (stands : StandsAt list w.after (Some after)) where
    abbrev numbers : List ℕ
    numbers = numbered_threads w.thread after.atom.threads

    after_named : (t : ℕ) → Contains after.atom.threads t → Contains numbers t
    after_named t h = slot_named w.thread after.atom.threads t (inr h)

    pub triple_holds : (before : Option Interpolant) → StandsAt list w.before before →
        ((b : Interpolant) → before ≡ Some b → (t : ℕ) → Contains b.atom.threads t → (t ≡ w.thread) ⊎ Contains after.atom.threads t) →
        EntryFits setting list (triple_of w before after) → EntryHolds setting list (triple_of w before after)
    triple_holds None h tied fits = record {
      names = (there, All-nil (IsAtomOf setting list), atom_there w.after after numbers sum_after stands);
      distinct = (All-nil HasThreadsOnce, atom_once w.after after numbers stands after_named);
      tied = All-nil (IsTiedTo (with_numbers numbers after.atom).threads);
      fits = fits;
      refutes = refutes_from_nothing setting list w after is long (ends_of w.thread (form_in setting w.command) w.after after sum_after stands) h;
    }
    triple_holds (Some b) h tied fits = record {
      names = (there, All-cons (IsAtomOf setting list) (with_numbers numbers b.atom) [] (atom_there w.before b numbers sum_before h) (All-nil (IsAtomOf setting list)), atom_there w.after after numbers sum_after stands);
      distinct = (
        All-cons HasThreadsOnce (with_numbers numbers b.atom) [] (atom_once w.before b numbers h (λ t i. slot_named w.thread after.atom.threads t (tied b refl t i))) (All-nil HasThreadsOnce),
        atom_once w.after after numbers stands after_named,
      );
      tied = All-cons (IsTiedTo (with_numbers numbers after.atom).threads) (with_numbers numbers b.atom) [] (atom_tied w.thread after.atom b.atom (tied b refl)) (All-nil (IsTiedTo (with_numbers numbers after.atom).threads));
      fits = fits;
      refutes = refutes_from setting list w after is long (ends_of w.thread (form_in setting w.command) w.after after sum_after stands) setting.globals setting.locals b (weighs_at w.before b sum_before some h);
    }
