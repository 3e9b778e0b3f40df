-- The worked answers on the counter.
use Rattle.std.proofs.Common.{◌≡◌, ◌≢◌, ◌<◌, ◌≤◌, ◌⊎◌, inl, inr, ℕ, ℤ, pos, negsuc, ◌+ℤ◌, ◌*ℤ◌, Bool, true, false, if◌then◌else◌, IsTrue, List, [], ◌∷◌, map, length, All, AllPairs, Contains, lit≤, refl, sym, ap, subst, ◌∙◌, arith}
use Rattle.std.specs.List.Sorted.{IsStrictlySortedBy}
use Rattle.std.specs.declared.cmp.Ordering.TheVariants.{Less}
use Rattle.std.proofs.lemmas.Bool.{cases_eq, false≢true}
use Rattle.std.proofs.lemmas.Int.{ints}
use Rattle.std.proofs.lemmas.List.Elements.{All-cons, All-contains, All-head, All-nil}
use Rattle.ps_atom.specs.Atoms.{atom_cmp}
use Rattle.ps_atom.specs.declared.atom.Atom.{Atom}
use Rattle.ps_elim.specs.Combining.{CombinationFits, WeightedFits}
use Rattle.ps_elim.specs.Elimination.{IsElimination}
use Rattle.ps_elim.specs.Supports.{is_less}
use Rattle.ps_elim.specs.declared.answer.Elim.TheVariants.{Refuted}
use Rattle.ps_farkas.specs.Examples.{row_on_x}
use Rattle.ps_list.proofs.Members.{nothing, cons_cases, here, there}
use Rattle.ps_saturate.proofs.Ascents.{all_from, same_or_shorter, sorted_cons, sorted_nil}
use Rattle.ps_saturate.proofs.Finding.{atom_total, sorted_from_ascend}
use Rattle.ps_saturate.proofs.Showing.{triple_rows_are}
use Rattle.ps_saturate.specs.Answered.{IsAskedTriple, set_cmp}
use Rattle.ps_saturate.specs.Asked.{Asks, IsAskedAt, IsAskedAtom}
use Rattle.ps_saturate.specs.Examples.{BothLeadToOne, NothingIsNew, NothingLeadsAlone, OneIsNew, adding}
use Rattle.ps_saturate.specs.Refuted.{IsLeastRefuted, IsRefutedSet, RefutesSet}
use Rattle.ps_term.specs.Var.{var_eq}
use Rattle.ps_term.specs.declared.row.Row.{Row}
use Rattle.ps_term.specs.declared.var.Var.TheVariants.{Global}
use Rattle.ps_triple.proofs.Examples.{adds_holds, grows_holds, no_threads}
use Rattle.ps_triple.specs.Ascending.{ascend}
use Rattle.ps_triple.specs.Examples.{bare, counter_predicates, counter_setting, leads}
use Rattle.ps_triple.specs.Rows.{predicate_of}
use Rattle.ps_triple.specs.declared.entry.Entry.{Entry}
use Rattle.ps_triple.specs.declared.triple.Triple.{Triple}

-- ---- the elimination of two rows

-- x is at least so much, and below 0
abbrev opposed : ℤ → List Row
opposed constant = row_on_x (negsuc 0) constant ∷ row_on_x (pos 1) (pos 1) ∷ []

-- what so often the first row and so often the second give to a variable that is x or isn't
abbrev under : ℕ → ℕ → Bool → ℤ
under m n t = (pos m *ℤ ((if t then negsuc 0 else pos 0) +ℤ pos 0)) +ℤ ((pos n *ℤ ((if t then pos 1 else pos 0) +ℤ pos 0)) +ℤ pos 0)

either_fits : (t : Bool) → WeightedFits 1 (under 0 1 t) 1 (under 1 0 t)
either_fits true = (record { sfits = omega arith }, (record { sfits = omega arith }, record { sfits = omega arith }))
either_fits false = (record { sfits = omega arith }, (record { sfits = omega arith }, record { sfits = omega arith }))

none_and_one : WeightedFits 1 (pos 0) 1 (pos 1)
none_and_one = (record { sfits = omega arith }, (record { sfits = omega arith }, record { sfits = omega arith }))

one_and_none : WeightedFits 1 (pos 1) 1 (pos 0)
one_and_none = (record { sfits = omega arith }, (record { sfits = omega arith }, record { sfits = omega arith }))

one_and_one : WeightedFits 1 (pos 1) 1 (pos 1)
one_and_one = (record { sfits = omega arith }, (record { sfits = omega arith }, record { sfits = omega arith }))

none_less : (u : List ℕ) → Contains ((1 ∷ 1 ∷ []) ∷ []) u → ¬ IsTrue (is_less u (1 ∷ 1 ∷ []))
none_less u c less = elim (cons_cases (1 ∷ 1 ∷ []) [] u c) [
  | inl same ↦ false≢true (subst (λ (v : List ℕ). is_less v (1 ∷ 1 ∷ []) ≡ true) (sym same) less)
  | inr rest ↦ nothing u rest
]

pair_at_one : CombinationFits (opposed (pos 1)) (Global 0) (0 ∷ 1 ∷ []) (1 ∷ 0 ∷ [])
pair_at_one = record { entries = (none_and_one, (one_and_none, tt)); coefficients = λ y. either_fits (var_eq y (Global 0)); constant = one_and_one }

pair_at_none : CombinationFits (opposed (pos 0)) (Global 0) (0 ∷ 1 ∷ []) (1 ∷ 0 ∷ [])
pair_at_none = record { entries = (none_and_one, (one_and_none, tt)); coefficients = λ y. either_fits (var_eq y (Global 0)); constant = one_and_none }

all_of : (rows : List Row) → CombinationFits rows (Global 0) (0 ∷ 1 ∷ []) (1 ∷ 0 ∷ []) → All (λ p. All (CombinationFits rows (Global 0) p) ((1 ∷ 0 ∷ []) ∷ [])) ((0 ∷ 1 ∷ []) ∷ [])
all_of rows h = All-cons (λ p. All (CombinationFits rows (Global 0) p) ((1 ∷ 0 ∷ []) ∷ [])) (0 ∷ 1 ∷ []) [] (All-cons (CombinationFits rows (Global 0) (0 ∷ 1 ∷ [])) (1 ∷ 0 ∷ []) [] h (All-nil (CombinationFits rows (Global 0) (0 ∷ 1 ∷ [])))) (All-nil (λ p. All (CombinationFits rows (Global 0) p) ((1 ∷ 0 ∷ []) ∷ [])))

refuted_at_one : IsElimination (opposed (pos 1)) (Refuted (1 ∷ 1 ∷ []))
refuted_at_one = ((record { few = lit≤ tt; fits = all_of (opposed (pos 1)) pair_at_one }, tt), record { is_last = here (1 ∷ 1 ∷ []) []; positive = omega (arith, ints); least = λ u c positive. none_less u c })

refuted_at_none : IsElimination (opposed (pos 0)) (Refuted (1 ∷ 1 ∷ []))
refuted_at_none = ((record { few = lit≤ tt; fits = all_of (opposed (pos 0)) pair_at_none }, tt), record { is_last = here (1 ∷ 1 ∷ []) []; positive = omega (arith, ints); least = λ u c positive. none_less u c })

-- ---- which sets are refuted

abbrev RefutedHere : List Atom → Type 0
RefutedHere set = IsRefutedSet counter_setting counter_predicates 0 (bare 1) set

abbrev LeastHere : List Atom → Type 0
LeastHere set = IsLeastRefuted counter_setting counter_predicates 0 (bare 1) set

abbrev from : ℕ → Triple
from n = record { pre = bare n ∷ []; command = 0; post = bare 1; lambda = 1 ∷ 1 ∷ []; ascends = refl }

shows_one : RefutesSet counter_setting counter_predicates 0 (bare 1) (bare 1 ∷ []) (from 1)
shows_one = record { before = refl; runs = refl; after = refl; eliminated = refuted_at_one; holds = grows_holds }

shows_two : RefutesSet counter_setting counter_predicates 0 (bare 1) (bare 2 ∷ []) (from 2)
shows_two = record { before = refl; runs = refl; after = refl; eliminated = refuted_at_none; holds = adds_holds }

-- no multiplier refutes the row alone that the post fails
alone : (v : List ℕ) → ¬ IsElimination (row_on_x (pos 1) (pos 1) ∷ []) (Refuted v)
alone v h = nothing v h.1.is_last

not_empty : ¬ RefutedHere []
not_empty h = alone h.0.lambda (subst (λ (rs : List Row). IsElimination rs (Refuted h.0.lambda)) (triple_rows_are counter_setting counter_predicates h.0 [] 0 (bare 1) h.1.before h.1.runs h.1.after) h.1.eliminated)

empty_from_short : (set : List Atom) → length set < 1 → set ≡ []
empty_from_short [] h = refl
empty_from_short (q ∷ set) h = absurd (omega arith)

one_sorted : (q : Atom) → IsStrictlySortedBy atom_cmp (q ∷ [])
one_sorted q = sorted_cons atom_cmp q [] (All-nil (λ r. atom_cmp q r ≡ Less)) (sorted_nil atom_cmp)

single_is_least : (q : Atom) → RefutedHere (q ∷ []) → LeastHere (q ∷ [])
single_is_least q h = record {
  refuted = h;
  least = λ part inside other k. elim (same_or_shorter atom_cmp atom_total (q ∷ []) part (one_sorted q) (sorted_from_ascend part (subst (λ (qs : List Atom). IsTrue (ascend qs)) k.1.before k.0.ascends)) (λ p l. All-contains (Contains (q ∷ [])) part p inside l)) [
    | inl same ↦ other same
    | inr less ↦ not_empty (subst (λ (qs : List Atom). RefutedHere qs) (empty_from_short part less) k)
  ];
}

-- ---- which sets are asked for

asked_bare : (n known : ℕ) → 0 < n → n < known → (predicate_of counter_predicates n).arity ≡ 0 → IsAskedAtom counter_predicates known (bare 1) (bare n)
asked_bare n known some less slots = record { known_is = less; not_false = some; slots = sym slots; once = no_threads n; tied = All-nil (λ (m : ℕ). (m ≡ 0) ⊎ Contains [] m) }

asked_single : (n known : ℕ) → 0 < n → n < known → (predicate_of counter_predicates n).arity ≡ 0 → IsAskedAt counter_predicates known (bare 1) (bare n ∷ [])
asked_single n known some less slots = record {
  some = omega arith;
  ascends = refl;
  atoms = All-cons (IsAskedAtom counter_predicates known (bare 1)) (bare n) [] (asked_bare n known some less slots) (All-nil (IsAskedAtom counter_predicates known (bare 1)));
}

no_members : (ts : List ℕ) → length ts ≡ 0 → ts ≡ []
no_members [] h = refl
no_members (t ∷ ts) h = absurd (omega arith)

bare_from : (q : Atom) (n : ℕ) → q.predicate ≡ n → (predicate_of counter_predicates n).arity ≡ 0 → length q.threads ≡ (predicate_of counter_predicates q.predicate).arity → q ≡ bare n
bare_from q n same slots long =
    let none : q.threads ≡ [] = no_members q.threads (long ∙ ap (λ (m : ℕ). (predicate_of counter_predicates m).arity) same ∙ slots) in
    Rattle.std.proofs.Common.ap₂ (λ (m : ℕ) (ts : List ℕ). let p : Atom = record { predicate = m; threads = ts } in p) same none

one_or_two : (q : Atom) → IsAskedAtom counter_predicates 3 (bare 1) q → (q ≡ bare 1) ⊎ (q ≡ bare 2)
one_or_two q h = elim (cases_eq q.predicate 1) [
  | inl same ↦ inl (bare_from q 1 same refl h.slots)
  | inr other ↦ inr (bare_from q 2 (let low : 0 < q.predicate = h.not_false in let high : q.predicate < 3 = h.known_is in omega (arith, other, low, high)) refl h.slots)
]

-- the empty set, and those of one atom
data IsSmall : List Atom → Type 0 where
  none : IsSmall []
  one : IsSmall (bare 1 ∷ [])
  two : IsSmall (bare 2 ∷ [])

small : (set : List Atom) → All (IsAskedAtom counter_predicates 3 (bare 1)) set → length set ≤ 1 → IsSmall set
small [] h few = none
small (q ∷ []) h few = elim (one_or_two q (All-head (IsAskedAtom counter_predicates 3 (bare 1)) q [] h)) [
  | inl same ↦ subst (λ (p : Atom). IsSmall (p ∷ [])) (sym same) one
  | inr same ↦ subst (λ (p : Atom). IsSmall (p ∷ [])) (sym same) two
]
small (q ∷ r ∷ set) h few = absurd (omega arith)

-- ---- the answers

never : (set : List Atom) → ¬ IsAskedAt counter_predicates 0 (bare 1) set
never set h = (let some : 0 < 0 = h.some in omega arith)

asks_one : Asks counter_predicates (adding 0) 1 (bare 1 ∷ [])
asks_one = record { now = asked_single 1 3 (omega arith) (omega arith) refl; new = never (bare 1 ∷ []); small = omega arith }

asks_two : (old : ℕ) → old ≤ 2 → Asks counter_predicates (adding old) 1 (bare 2 ∷ [])
asks_two old few = record {
  now = asked_single 2 3 (omega arith) (omega arith) refl;
  new = λ h. (let less : 2 < old = (All-head (IsAskedAtom counter_predicates old (bare 1)) (bare 2) [] h.atoms).known_is in omega arith);
  small = omega arith;
}

abbrev AskedHere : ℕ → Entry → Type 0
AskedHere old = IsAskedTriple counter_setting counter_predicates (adding old) 1

first_entry : AskedHere 0 (leads 1 0 1 (1 ∷ 1 ∷ []))
first_entry = (asks_one, single_is_least (bare 1) (from 1, shows_one), shows_one)

second_entry : (old : ℕ) → old ≤ 2 → AskedHere old (leads 2 0 1 (1 ∷ 1 ∷ []))
second_entry old few = (asks_two old few, single_is_least (bare 2) (from 2, shows_two), shows_two)

-- each refuted set that is asked for is least
least_of : (set : List Atom) → IsSmall set → RefutedHere set → LeastHere set
least_of set none h = absurd (not_empty h)
least_of set one h = single_is_least (bare 1) h
least_of set two h = single_is_least (bare 2) h

itself : (set : List Atom) → All (Contains set) set
itself set = all_from (Contains set) set (λ q k. k)

inside_itself : (set : List Atom) → IsSmall set → RefutedHere set → (part : List Atom) × All (Contains set) part × LeastHere part
inside_itself set is h = (set, itself set, least_of set is h)

small_of : (old : ℕ) (set : List Atom) → Asks counter_predicates (adding old) 1 set → IsSmall set
small_of old set asks = small set asks.now.atoms asks.small

both_sets : (set : List Atom) → IsSmall set → LeastHere set → Contains ((bare 1 ∷ []) ∷ (bare 2 ∷ []) ∷ []) set
both_sets set none h = absurd (not_empty h.refuted)
both_sets set one h = here (bare 1 ∷ []) ((bare 2 ∷ []) ∷ [])
both_sets set two h = there (bare 1 ∷ []) ((bare 2 ∷ []) ∷ []) (bare 2 ∷ []) (here (bare 2 ∷ []) [])

second_set : (set : List Atom) → IsSmall set → Asks counter_predicates (adding 2) 1 set → LeastHere set → Contains ((bare 2 ∷ []) ∷ []) set
second_set set none asks h = absurd (not_empty h.refuted)
second_set set one asks h = absurd (asks.new (asked_single 1 2 (omega arith) (omega arith) refl))
second_set set two asks h = here (bare 2 ∷ []) []

pub both : BothLeadToOne
both = record {
  asked = All-cons (AskedHere 0) (leads 1 0 1 (1 ∷ 1 ∷ [])) (leads 2 0 1 (1 ∷ 1 ∷ []) ∷ []) first_entry (All-cons (AskedHere 0) (leads 2 0 1 (1 ∷ 1 ∷ [])) [] (second_entry 0 (omega arith)) (All-nil (AskedHere 0)));
  every = λ set asks h. both_sets set (small_of 0 set asks) h;
  ordered = sorted_cons set_cmp (bare 1 ∷ []) ((bare 2 ∷ []) ∷ []) (All-cons (λ b. set_cmp (bare 1 ∷ []) b ≡ Less) (bare 2 ∷ []) [] refl (All-nil (λ b. set_cmp (bare 1 ∷ []) b ≡ Less)))
      (sorted_cons set_cmp (bare 2 ∷ []) [] (All-nil (λ b. set_cmp (bare 2 ∷ []) b ≡ Less)) (sorted_nil set_cmp));
  inside = λ set asks h. inside_itself set (small_of 0 set asks) h;
}

pub one_new : OneIsNew
one_new = record {
  asked = All-cons (AskedHere 2) (leads 2 0 1 (1 ∷ 1 ∷ [])) [] (second_entry 2 (omega arith)) (All-nil (AskedHere 2));
  every = λ set asks h. second_set set (small_of 2 set asks) asks h;
  ordered = sorted_cons set_cmp (bare 2 ∷ []) [] (All-nil (λ b. set_cmp (bare 2 ∷ []) b ≡ Less)) (sorted_nil set_cmp);
  inside = λ set asks h. inside_itself set (small_of 2 set asks) h;
}

pub none_new : NothingIsNew
none_new = record {
  asked = All-nil (AskedHere 3);
  every = λ set asks h. absurd (asks.new asks.now);
  ordered = sorted_nil set_cmp;
  inside = λ set asks h. absurd (asks.new asks.now);
}

pub none_alone : NothingLeadsAlone
none_alone = record {
  asked = All-nil (IsAskedTriple counter_setting counter_predicates (adding 0) 0);
  every = λ set asks h. absurd (not_empty (subst (λ (qs : List Atom). RefutedHere qs) (empty_from_short set (let few : length set ≤ 0 = asks.small in omega arith)) h.refuted));
  ordered = sorted_nil set_cmp;
  inside = λ set asks h. absurd (not_empty (subst (λ (qs : List Atom). RefutedHere qs) (empty_from_short set (let few : length set ≤ 0 = asks.small in omega arith)) h));
}
