-- The worked examples.
use Rattle.std.proofs.Common.{◌≡◌, ◌≢◌, ◌⊎◌, inl, inr, refl, sym, subst, Bool, true, false, ◌&&◌, ℕ, ◌<◌, ◌≤◌, ◌^◌, ◌-◌, ℤ, pos, negsuc, ◌+ℤ◌, ◌*ℤ◌, ◌≤ℤ◌, neg_ℤ, ◌-ℤ◌, FitsSigned, int_le, List, [], ◌∷◌, length, All, Contains, arith}
use Rattle.std.specs.Int.{w128}
use Rattle.std.specs.List.{AllByRecursion}
use Rattle.std.proofs.lemmas.Bool.{and_parts}
use Rattle.std.proofs.lemmas.Int.{ints}
use Rattle.std.proofs.lemmas.List.Elements.{All-nil, All-cons, All-head, All-contains, All-from_recursion}
use Rattle.ps_list.proofs.Members.{nothing, cons_cases}
use Rattle.ps_term.specs.Pairs.{coefficient}
use Rattle.ps_term.specs.Negation.{NegationFits}
use Rattle.ps_term.specs.Sums.{ScaledFits}
use Rattle.ps_term.specs.Var.{var_eq}
use Rattle.ps_term.specs.declared.row.Row.{Row}
use Rattle.ps_term.specs.declared.term.Term.{Term}
use Rattle.ps_term.specs.declared.var.Var.{Var}
use Rattle.ps_term.specs.declared.var.Var.TheVariants.{Local}
use Rattle.ps_term.proofs.Canonical.{coefficient-other}
use Rattle.ps_term.proofs.Variables.{var_eq-true}
use Rattle.ps_farkas.specs.Examples.{bare_row, row_on_x}
use Rattle.ps_farkas.specs.Refutes.{AllSumsFit, Refutes, SumsFit, weighted}
use Rattle.ps_farkas.proofs.Weighing.{weighted-zero, SumsFit-zero}
use Rattle.ps_command.specs.Examples.{x}
use Rattle.ps_atom.proofs.Chains.{pairs_from_chain}
use Rattle.ps_atom.specs.Range.{IsDeclared}
use Rattle.ps_atom.specs.declared.atom.Atom.{Atom}
use Rattle.ps_triple.specs.Examples.{bare, begins, counter_entries, counter_predicates, counter_setting, keeps, leads, local_predicates, local_setting, of_threads}
use Rattle.ps_triple.specs.Faults.{EntryHolds, IsFirstEntryFault}
use Rattle.ps_triple.specs.Fits.{MakingFits, entry_rows, lambda_of}
use Rattle.ps_triple.specs.Rows.{predicate_of}
use Rattle.ps_triple.specs.Tests.{HasDistinctThreads, HasNoFreeThread, HasThreadsOnce, IsAtomOf, IsThere, IsTiedTo, NamesThings}
use Rattle.ps_triple.specs.declared.entry.Entry.{Entry}
use Rattle.ps_triple.specs.declared.entry_end.EntryFault.TheVariants.{BadNumber, FreeThread, Length, Past128, Sum}
use Rattle.ps_triple.proofs.Apart.{one_thread}

-- ---- sums of small numbers, by a test
abbrev small : ℤ → Bool
small z = int_le (negsuc 9) z && int_le z (pos 9)

le_true : (a b : ℤ) → int_le a b ≡ true → a ≤ℤ b
le_true a b h = grind (arith, ints)

small_fits : (z : ℤ) → small z ≡ true → FitsSigned w128 z
small_fits (pos n) h =
    let high : pos n ≤ℤ pos 9 = le_true (pos n) (pos 9) (and_parts (int_le (negsuc 9) (pos n)) (int_le (pos n) (pos 9)) h).1 in
    record { sfits = omega (arith, ints, high) }
small_fits (negsuc n) h =
    let low : negsuc 9 ≤ℤ negsuc n = le_true (negsuc 9) (negsuc n) (and_parts (int_le (negsuc 9) (negsuc n)) (int_le (negsuc n) (pos 9)) h).0 in
    record { sfits = omega (arith, ints, low) }

abbrev small_sums : (Term → ℤ) → ℤ → List Row → List ℕ → Bool
small_sums part s (r ∷ rs) (n ∷ ns) =
    small (pos n *ℤ part r.term) && (small (s +ℤ (pos n *ℤ part r.term)) && small_sums part (s +ℤ (pos n *ℤ part r.term)) rs ns)
small_sums part s [] ns = true
small_sums part s (r ∷ rs) [] = true

small_sums_fit : (part : Term → ℤ) (s : ℤ) (rows : List Row) (ns : List ℕ) → small_sums part s rows ns ≡ true → SumsFit part s rows ns
small_sums_fit part s (r ∷ rs) (n ∷ ns) h =
    let one : (small (pos n *ℤ part r.term) ≡ true) × ((small (s +ℤ (pos n *ℤ part r.term)) && small_sums part (s +ℤ (pos n *ℤ part r.term)) rs ns) ≡ true) =
    and_parts (small (pos n *ℤ part r.term)) (small (s +ℤ (pos n *ℤ part r.term)) && small_sums part (s +ℤ (pos n *ℤ part r.term)) rs ns) h in
    let two : (small (s +ℤ (pos n *ℤ part r.term)) ≡ true) × (small_sums part (s +ℤ (pos n *ℤ part r.term)) rs ns ≡ true) =
    and_parts (small (s +ℤ (pos n *ℤ part r.term))) (small_sums part (s +ℤ (pos n *ℤ part r.term)) rs ns) one.1 in
    ((small_fits (pos n *ℤ part r.term) one.0, small_fits (s +ℤ (pos n *ℤ part r.term)) two.0), small_sums_fit part (s +ℤ (pos n *ℤ part r.term)) rs ns two.1)
small_sums_fit part s [] ns h = tt
small_sums_fit part s (r ∷ rs) [] h = tt

-- ---- rows that name x alone
abbrev OnX : Row → Type 0
OnX r = (y : Var) → var_eq y x ≡ false → coefficient y r.term.pairs ≡ pos 0

on_x : (by constant : ℤ) → OnX (row_on_x by constant)
on_x by constant y other = coefficient-other y (x, by) [] other

no_x : (constant : ℤ) → OnX (bare_row constant)
no_x constant y other = refl

elsewhere : (rows : List Row) → AllByRecursion OnX rows → (y : Var) → var_eq y x ≡ false → AllByRecursion (λ r. coefficient y r.term.pairs ≡ pos 0) rows
elsewhere [] h y other = tt
elsewhere (r ∷ rows) h y other = (h.0 y other, elsewhere rows h.1 y other)

at_each : (P : Var → Type 0) → P x → ((y : Var) → var_eq y x ≡ false → P y) → (y : Var) → P y
at_each P here other y = by_test (var_eq y x) refl
  where
    by_test : (t : Bool) → var_eq y x ≡ t → P y
    by_test true e = subst P (sym (var_eq-true y x e)) here
    by_test false e = other y e

-- the sums of such rows, which are small
abbrev AreSmall : List Row → List ℕ → Type 0
AreSmall rows ns =
    (small_sums (λ t. coefficient x t.pairs) (pos 0) rows ns ≡ true) × (small_sums (λ t. t.constant) (pos 0) rows ns ≡ true)

all_fit : (rows : List Row) (ns : List ℕ) → AllByRecursion OnX rows → AreSmall rows ns → AllSumsFit rows ns
all_fit rows ns on small = (
  at_each (λ y. SumsFit (λ t. coefficient y t.pairs) (pos 0) rows ns)
      (small_sums_fit (λ t. coefficient x t.pairs) (pos 0) rows ns small.0)
      (λ y other. SumsFit-zero (λ t. coefficient y t.pairs) rows ns (elsewhere rows on y other)),
  small_sums_fit (λ t. t.constant) (pos 0) rows ns small.1,
)

refuted : (rows : List Row) (ns : List ℕ) → AllByRecursion OnX rows → length ns ≡ length rows →
    weighted (λ t. coefficient x t.pairs) rows ns ≡ pos 0 → pos 1 ≤ℤ weighted (λ t. t.constant) rows ns → Refutes rows ns
refuted rows ns on lengths cancel positive = record {
  lengths = lengths;
  cancels = at_each (λ y. weighted (λ t. coefficient y t.pairs) rows ns ≡ pos 0) cancel
      (λ y other. weighted-zero (λ t. coefficient y t.pairs) rows ns (elsewhere rows on y other));
  positive = positive;
}

-- ---- the counter
one_variable : (c : ℤ) → All (λ (pair : Var × ℤ). IsDeclared 1 0 0 pair.0) ((x, c) ∷ [])
one_variable c = All-from_recursion (λ (pair : Var × ℤ). IsDeclared 1 0 0 pair.0) ((x, c) ∷ []) ((let l : 0 < 1 = omega arith in l), tt)

there_0 : IsThere counter_setting counter_predicates 0
there_0 = ((let l : 0 < 3 = omega arith in l), ((let l : 0 ≤ 4 = omega arith in l), All-nil (λ (pair : Var × ℤ). IsDeclared 1 0 0 pair.0)))

there_1 : IsThere counter_setting counter_predicates 1
there_1 = ((let l : 1 < 3 = omega arith in l), ((let l : 0 ≤ 4 = omega arith in l), one_variable (negsuc 0)))

there_2 : IsThere counter_setting counter_predicates 2
there_2 = ((let l : 2 < 3 = omega arith in l), ((let l : 0 ≤ 4 = omega arith in l), one_variable (negsuc 0)))

pub no_threads : (n : ℕ) → HasThreadsOnce (bare n)
no_threads n = pairs_from_chain (λ (s t : ℕ). s ≢ t) [] tt

abbrev IsAtom : Atom → Type 0
IsAtom = IsAtomOf counter_setting counter_predicates

-- the tests of a triple of the counter
leads_names : (before command after : ℕ) (lambda : List ℕ) → IsThere counter_setting counter_predicates before → command < 3 → IsThere counter_setting counter_predicates after →
    0 ≡ (predicate_of counter_predicates before).arity → 0 ≡ (predicate_of counter_predicates after).arity →
    NamesThings counter_setting counter_predicates (leads before command after lambda)
leads_names before command after lambda first below last slots slots_after =
    (below, All-cons IsAtom (bare before) [] (first, slots) (All-nil IsAtom), (last, slots_after))

leads_distinct : (before command after : ℕ) (lambda : List ℕ) → HasDistinctThreads (leads before command after lambda)
leads_distinct before command after lambda =
    (All-cons HasThreadsOnce (bare before) [] (no_threads before) (All-nil HasThreadsOnce), no_threads after)

leads_tied : (before command after : ℕ) (lambda : List ℕ) → HasNoFreeThread (leads before command after lambda)
leads_tied before command after lambda =
    All-cons (IsTiedTo []) (bare before) [] (All-nil (λ (n : ℕ). (n ≡ 0) ⊎ Contains [] n)) (All-nil (IsTiedTo []))

-- the rows and sums of an entry of the counter
counter_holds : (entry : Entry) → NamesThings counter_setting counter_predicates entry → HasDistinctThreads entry → HasNoFreeThread entry → MakingFits counter_setting counter_predicates entry →
    AllByRecursion OnX (entry_rows counter_setting counter_predicates entry) → AreSmall (entry_rows counter_setting counter_predicates entry) (lambda_of entry) →
    length (lambda_of entry) ≡ length (entry_rows counter_setting counter_predicates entry) →
    weighted (λ t. coefficient x t.pairs) (entry_rows counter_setting counter_predicates entry) (lambda_of entry) ≡ pos 0 →
    pos 1 ≤ℤ weighted (λ t. t.constant) (entry_rows counter_setting counter_predicates entry) (lambda_of entry) → EntryHolds counter_setting counter_predicates entry
counter_holds entry names distinct tied making on small lengths cancel positive = record {
  names = names;
  distinct = distinct;
  tied = tied;
  fits = (making, all_fit (entry_rows counter_setting counter_predicates entry) (lambda_of entry) on small);
  refutes = refuted (entry_rows counter_setting counter_predicates entry) (lambda_of entry) on lengths cancel positive;
}

one : FitsSigned w128 (pos 1)
one = small_fits (pos 1) refl

none : FitsSigned w128 (pos 0)
none = small_fits (pos 0) refl

negation_fits : (constant : ℤ) → small (neg_ℤ constant) ≡ true → small (pos 1 -ℤ constant) ≡ true → NegationFits (row_on_x (negsuc 0) constant)
negation_fits constant a b =
    (All-from_recursion (λ (p : Var × ℤ). FitsSigned w128 (neg_ℤ p.1)) ((x, negsuc 0) ∷ []) (one, tt), small_fits (neg_ℤ constant) a, small_fits (pos 1 -ℤ constant) b)

false_negation_fits : NegationFits (bare_row (pos 1))
false_negation_fits = (All-nil (λ (p : Var × ℤ). FitsSigned w128 (neg_ℤ p.1)), small_fits (negsuc 0) refl, none)

x_alone : All (λ (q : Var × ℤ). ScaledFits (pos 0) (pos 1) q.1) ((x, pos 1) ∷ [])
x_alone = All-from_recursion (λ (q : Var × ℤ). ScaledFits (pos 0) (pos 1) q.1) ((x, pos 1) ∷ []) ((one, one), tt)

first_holds : EntryHolds counter_setting counter_predicates (begins 2 (0 ∷ 1 ∷ 1 ∷ []))
first_holds = counter_holds (begins 2 (0 ∷ 1 ∷ 1 ∷ [])) there_2 tt tt (negation_fits (pos 0) refl refl)
    (on_x (pos 1) (pos 0), (on_x (negsuc 0) (pos 0), (on_x (pos 1) (pos 1), tt))) (refl, refl) refl refl (omega (arith, ints))

stops_holds : EntryHolds counter_setting counter_predicates (leads 1 2 0 (1 ∷ 1 ∷ 0 ∷ []))
stops_holds = counter_holds (leads 1 2 0 (1 ∷ 1 ∷ 0 ∷ [])) (leads_names 1 2 0 (1 ∷ 1 ∷ 0 ∷ []) there_1 (omega arith) there_0 refl refl)
    (leads_distinct 1 2 0 (1 ∷ 1 ∷ 0 ∷ [])) (leads_tied 1 2 0 (1 ∷ 1 ∷ 0 ∷ [])) (false_negation_fits, none)
    (on_x (negsuc 0) (pos 1), (on_x (pos 1) (pos 0), (no_x (pos 0), tt))) (refl, refl) refl refl (omega (arith, ints))

pub adds_holds : EntryHolds counter_setting counter_predicates (leads 2 0 1 (1 ∷ 1 ∷ []))
adds_holds = counter_holds (leads 2 0 1 (1 ∷ 1 ∷ [])) (leads_names 2 0 1 (1 ∷ 1 ∷ []) there_2 (omega arith) there_1 refl refl)
    (leads_distinct 2 0 1 (1 ∷ 1 ∷ [])) (leads_tied 2 0 1 (1 ∷ 1 ∷ [])) (negation_fits (pos 1) refl refl, (x_alone, (one, one), one))
    (on_x (negsuc 0) (pos 0), (on_x (pos 1) (pos 1), tt)) (refl, refl) refl refl (omega (arith, ints))

pub grows_holds : EntryHolds counter_setting counter_predicates (leads 1 0 1 (1 ∷ 1 ∷ []))
grows_holds = counter_holds (leads 1 0 1 (1 ∷ 1 ∷ [])) (leads_names 1 0 1 (1 ∷ 1 ∷ []) there_1 (omega arith) there_1 refl refl)
    (leads_distinct 1 0 1 (1 ∷ 1 ∷ [])) (leads_tied 1 0 1 (1 ∷ 1 ∷ [])) (negation_fits (pos 1) refl refl, (x_alone, (one, one), one))
    (on_x (negsuc 0) (pos 1), (on_x (pos 1) (pos 1), tt)) (refl, refl) refl refl (omega (arith, ints))

passes_holds : EntryHolds counter_setting counter_predicates (leads 1 1 1 (1 ∷ 0 ∷ 1 ∷ []))
passes_holds = counter_holds (leads 1 1 1 (1 ∷ 0 ∷ 1 ∷ [])) (leads_names 1 1 1 (1 ∷ 0 ∷ 1 ∷ []) there_1 (omega arith) there_1 refl refl)
    (leads_distinct 1 1 1 (1 ∷ 0 ∷ 1 ∷ [])) (leads_tied 1 1 1 (1 ∷ 0 ∷ 1 ∷ [])) (negation_fits (pos 1) refl refl, (x_alone, (none, none), none))
    (on_x (negsuc 0) (pos 1), (on_x (negsuc 0) (pos 1), (on_x (pos 1) (pos 0), tt))) (refl, refl) refl refl (omega (arith, ints))

stays_holds : EntryHolds counter_setting counter_predicates (leads 2 0 2 (1 ∷ 1 ∷ []))
stays_holds = counter_holds (leads 2 0 2 (1 ∷ 1 ∷ [])) (leads_names 2 0 2 (1 ∷ 1 ∷ []) there_2 (omega arith) there_2 refl refl)
    (leads_distinct 2 0 2 (1 ∷ 1 ∷ [])) (leads_tied 2 0 2 (1 ∷ 1 ∷ [])) (negation_fits (pos 0) refl refl, (x_alone, (one, one), small_fits (pos 2) refl))
    (on_x (negsuc 0) (pos 0), (on_x (pos 1) (pos 2), tt)) (refl, refl) refl refl (omega (arith, ints))

rests_holds : EntryHolds counter_setting counter_predicates (leads 2 1 2 (1 ∷ 0 ∷ 1 ∷ []))
rests_holds = counter_holds (leads 2 1 2 (1 ∷ 0 ∷ 1 ∷ [])) (leads_names 2 1 2 (1 ∷ 0 ∷ 1 ∷ []) there_2 (omega arith) there_2 refl refl)
    (leads_distinct 2 1 2 (1 ∷ 0 ∷ 1 ∷ [])) (leads_tied 2 1 2 (1 ∷ 0 ∷ 1 ∷ [])) (negation_fits (pos 0) refl refl, (x_alone, (none, none), one))
    (on_x (negsuc 0) (pos 0), (on_x (negsuc 0) (pos 1), (on_x (pos 1) (pos 1), tt))) (refl, refl) refl refl (omega (arith, ints))

abbrev CounterHolds : Entry → Type 0
CounterHolds = EntryHolds counter_setting counter_predicates

pub counter_entries_hold : (entry : Entry) → Contains counter_entries entry → EntryHolds counter_setting counter_predicates entry
counter_entries_hold entry within = All-contains CounterHolds counter_entries entry
    (All-from_recursion CounterHolds counter_entries (first_holds, (stops_holds, (adds_holds, (passes_holds, (stays_holds, (rests_holds, tt)))))))
    within

-- ---- other multipliers
stops_named : (lambda : List ℕ) → NamesThings counter_setting counter_predicates (leads 1 2 0 lambda)
stops_named lambda = leads_names 1 2 0 lambda there_1 (omega arith) there_0 refl refl

pub too_few : IsFirstEntryFault counter_setting counter_predicates (leads 1 2 0 (1 ∷ 1 ∷ [])) (Length 2 3)
too_few = ((refl, refl, (λ e. let none_such : ⊥ = omega (arith, e) in none_such)), (stops_named (1 ∷ 1 ∷ []), leads_distinct 1 2 0 (1 ∷ 1 ∷ []), leads_tied 1 2 0 (1 ∷ 1 ∷ [])))

pub no_constant : IsFirstEntryFault counter_setting counter_predicates (leads 1 2 0 (1 ∷ 0 ∷ 0 ∷ [])) Sum
no_constant = (
  (λ r. let e : negsuc 0 ≡ pos 0 = r.cancels x in let none_such : ⊥ = cc in none_such),
  (
    stops_named (1 ∷ 0 ∷ 0 ∷ []),
    leads_distinct 1 2 0 (1 ∷ 0 ∷ 0 ∷ []),
    leads_tied 1 2 0 (1 ∷ 0 ∷ 0 ∷ []),
    refl,
    (
      (false_negation_fits, none),
      all_fit (entry_rows counter_setting counter_predicates (leads 1 2 0 (1 ∷ 0 ∷ 0 ∷ []))) (1 ∷ 0 ∷ 0 ∷ []) (on_x (negsuc 0) (pos 1), (on_x (pos 1) (pos 0), (no_x (pos 0), tt))) (refl, refl),
    ),
  ),
)

abbrev great : List ℕ
great = (2 ^ 128 - 1) ∷ 1 ∷ 0 ∷ []

pub too_great : IsFirstEntryFault counter_setting counter_predicates (leads 1 2 0 great) Past128
too_great = (
  (λ fits. let f : FitsSigned w128 (pos (2 ^ 128 - 1) *ℤ pos 1) = fits.1.1.0.0 in let none_such : ⊥ = omega (arith, ints, f.sfits) in none_such),
  (stops_named great, leads_distinct 1 2 0 great, leads_tied 1 2 0 great, refl),
)

pub no_command : IsFirstEntryFault counter_setting counter_predicates (leads 1 7 0 (1 ∷ 1 ∷ [])) BadNumber
no_command = ((λ names. let below : 7 < 3 = names.0 in let none_such : ⊥ = omega (arith, below) in none_such), tt)

-- ---- threads
local_pairs : (c : ℤ) → All (λ (pair : Var × ℤ). IsDeclared 0 1 1 pair.0) ((Local 0 0, c) ∷ [])
local_pairs c = All-from_recursion (λ (pair : Var × ℤ). IsDeclared 0 1 1 pair.0) ((Local 0 0, c) ∷ []) (((let l : 0 < 1 = omega arith in l), (let l : 0 < 1 = omega arith in l)), tt)

local_there : IsThere local_setting local_predicates 1
local_there = ((let l : 1 < 2 = omega arith in l), ((let l : 1 ≤ 4 = omega arith in l), local_pairs (negsuc 0)))

abbrev IsLocalAtom : Atom → Type 0
IsLocalAtom = IsAtomOf local_setting local_predicates

keeps_names : (before after : ℕ) → NamesThings local_setting local_predicates (keeps (before ∷ []) (after ∷ []) [])
keeps_names before after =
    ((let l : 0 < 1 = omega arith in l), All-cons IsLocalAtom (of_threads (before ∷ [])) [] (local_there, refl) (All-nil IsLocalAtom), (local_there, refl))

keeps_distinct : (before after : ℕ) → HasDistinctThreads (keeps (before ∷ []) (after ∷ []) [])
keeps_distinct before after =
    (All-cons HasThreadsOnce (of_threads (before ∷ [])) [] (one_thread before) (All-nil HasThreadsOnce), one_thread after)

member_of_one : (n k : ℕ) → Contains (n ∷ []) k → k ≡ n
member_of_one n k within = elim (cons_cases n [] k within) [
  | inl is ↦ sym is
  | inr h ↦ absurd (nothing k h)
]

pub free_thread : IsFirstEntryFault local_setting local_predicates (keeps (2 ∷ []) (1 ∷ []) []) FreeThread
free_thread = (
  (λ tied. elim (All-head (λ (n : ℕ). (n ≡ 0) ⊎ Contains (1 ∷ []) n) 2 [] (All-head (IsTiedTo (1 ∷ [])) (of_threads (2 ∷ [])) [] tied)) [
    | inl e ↦ (let none_such : ⊥ = omega (arith, e) in none_such)
    | inr h ↦ (let e : 2 ≡ 1 = member_of_one 1 2 h in let none_such : ⊥ = omega (arith, e) in none_such)
  ]),
  (keeps_names 2 1, keeps_distinct 2 1),
)

pub mover_is_not_free : ¬ IsFirstEntryFault local_setting local_predicates (keeps (0 ∷ []) (1 ∷ []) []) FreeThread
mover_is_not_free fault = fault.0 (All-cons (IsTiedTo (1 ∷ [])) (of_threads (0 ∷ [])) []
    (All-cons (λ (n : ℕ). (n ≡ 0) ⊎ Contains (1 ∷ []) n) 0 [] (inl refl) (All-nil (λ (n : ℕ). (n ≡ 0) ⊎ Contains (1 ∷ []) n))) (All-nil (IsTiedTo (1 ∷ []))))

pub slots_are_few : IsFirstEntryFault local_setting local_predicates (keeps (1 ∷ 1 ∷ []) (1 ∷ []) []) BadNumber
slots_are_few = ((λ names. let h : IsLocalAtom (of_threads (1 ∷ 1 ∷ [])) = All-head IsLocalAtom (of_threads (1 ∷ 1 ∷ [])) [] names.1 in let e : 2 ≡ 1 = h.1 in let none_such : ⊥ = omega (arith, e) in none_such), tt)
