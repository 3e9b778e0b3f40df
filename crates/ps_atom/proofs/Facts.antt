-- What canonical predicates are: one of each row, and of each multiple of it; what they say; and that they are their own.
use Rattle.std.proofs.Common.{◌≡◌, ◌≤◌, ℕ, ℤ, pos, ◌+ℤ◌, ◌*ℤ◌, ◌≤ℤ◌, List, length, get_or, slice_index, Contains, map, refl, sym, ap, ◌∙◌, subst, arith}
use Rattle.std.proofs.lemmas.Int.{ints}
use Rattle.ps_term.specs.declared.row.Row.{Row}
use Rattle.ps_term.specs.declared.var.Var.{Var}
use Rattle.ps_term.specs.declared.var.Var.TheVariants.{Local}
use Rattle.ps_term.specs.Pairs.{IsCanonical, pairs_value, coefficient}
use Rattle.ps_term.specs.Row.{Holds}
use Rattle.ps_atom.specs.Atoms.{at_threads, HoldsAt}
use Rattle.ps_atom.specs.Canonical.{HasSlots, IsInSlots, IsCanonicalOf}
use Rattle.ps_atom.specs.inner.Slots.{put_in_slots}
use Rattle.ps_atom.specs.Threads.{local_pairs}
use Rattle.ps_atom.specs.declared.predicate.Predicate.{Predicate}
use Rattle.ps_atom.proofs.Parts.{slot_of, slotted, AreAmong, placed_worth, placed_canonical}
use Rattle.ps_atom.proofs.Slotting.{among, from_among, placed_slots, same_slots, same_worth, slot_of-found, slots_once, slots_unique}
use Rattle.ps_atom.proofs.Tightness.{multiple_tight, same_tight}

-- ---- one form
pub predicate_is : (p q : Predicate) → p.arity ≡ q.arity → p.row.term.pairs ≡ q.row.term.pairs → p.row.term.constant ≡ q.row.term.constant → p ≡ q
predicate_is p q a ps c = λ i. record { arity = a i; row = record { term = record { pairs = ps i; constant = c i } } }

same_in_slots : (row : Row) (p q : Predicate) (ts us : List ℕ) → IsInSlots row p ts → IsInSlots row q us → (p ≡ q) × (ts ≡ us)
same_in_slots row p q ts us a b =
    let threads : ts ≡ us = same_slots row.term.pairs ts us a.in_order b.in_order in
    let moved : HasSlots row.term.pairs ts q.row.term.pairs = subst (λ (vs : List ℕ). HasSlots row.term.pairs vs q.row.term.pairs) (sym threads) b.coefficients in
    (predicate_is p q (a.arity ∙ (ap (λ (vs : List ℕ). length vs) threads ∙ sym b.arity)) (slots_unique row.term.pairs ts p.row.term.pairs q.row.term.pairs a.coefficients moved a.canonical b.canonical) (a.constant ∙ sym b.constant), threads)

pub one_form : (row : Row) (p q : Predicate) (ts us : List ℕ) → IsCanonicalOf row p ts → IsCanonicalOf row q us → (p ≡ q) × (ts ≡ us)
one_form row p q ts us a b =
    let tight : a.tight ≡ b.tight = same_tight row a.tight b.tight a.tightened b.tightened a.canonical b.canonical in
    same_in_slots b.tight p q ts us (subst (λ (r : Row). IsInSlots r p ts) tight a.in_slots) b.in_slots

pub multiple_form : (k : ℕ) (old new : Row) (p : Predicate) (ts : List ℕ) → 1 ≤ k → ((x : Var) → coefficient x new.term.pairs ≡ (pos k *ℤ coefficient x old.term.pairs)) → new.term.constant ≡ (pos k *ℤ old.term.constant) → IsCanonicalOf old p ts → IsCanonicalOf new p ts
multiple_form k old new p ts h scaled constant a = record {
  tight = a.tight;
  tightened = multiple_tight k old new a.tight h scaled constant a.tightened;
  canonical = a.canonical;
  in_slots = a.in_slots;
}

-- ---- what it says
slots_among : (row : Row) (p : Predicate) (ts : List ℕ) → IsCanonical row.term.pairs → IsInSlots row p ts → AreAmong ts row.term.pairs
slots_among row p ts c a = among ts row.term.pairs c (λ t o. (a.in_order.occurring t).1 o)

is_placed : (row : Row) (p : Predicate) (ts : List ℕ) → IsCanonical row.term.pairs → IsInSlots row p ts → p.row.term.pairs ≡ put_in_slots (map (λ t. local_pairs t row.term.pairs) ts) row.term.pairs
is_placed row p ts c a =
    let ps = row.term.pairs in
    slots_unique ps ts p.row.term.pairs (put_in_slots (map (λ t. local_pairs t ps) ts) ps) a.coefficients (placed_slots ts ps (slots_once ps ts a.in_order) (slots_among row p ts c a)) a.canonical (placed_canonical ts ps c)

slot_back : (ts : List ℕ) (t : ℕ) → Contains ts t → slice_index ts (slot_of 0 ts t) ≡ t
slot_back ts t m =
    let f = slot_of-found 0 ts t m in
    let at : slot_of 0 ts t ≡ f.0 = omega (arith, f.1) in
    ap (λ (i : ℕ). get_or ts i 0) at ∙ f.3

back_worth : (values : Var → ℤ) (ts : List ℕ) (ps : List (Var × ℤ)) → AreAmong ts ps → pairs_value (λ x. values (at_threads ts (slotted ts x))) ps ≡ pairs_value values ps
back_worth values ts ps a =
    same_worth (λ x. values (at_threads ts (slotted ts x))) values ps (from_among (λ p. values (at_threads ts (slotted ts p.0)) ≡ values p.0) ts ps a (λ n c. refl) (λ t n c m. ap (λ (u : ℕ). values (Local u n)) (slot_back ts t m)) (λ n c. refl))

in_slots_worth : (values : Var → ℤ) (row : Row) (p : Predicate) (ts : List ℕ) → IsCanonical row.term.pairs → IsInSlots row p ts → pairs_value (λ x. values (at_threads ts x)) p.row.term.pairs ≡ pairs_value values row.term.pairs
in_slots_worth values row p ts c a =
    let ps = row.term.pairs in
    ap (λ (qs : List (Var × ℤ)). pairs_value (λ x. values (at_threads ts x)) qs) (is_placed row p ts c a) ∙ (placed_worth (λ x. values (at_threads ts x)) ts ps (slots_once ps ts a.in_order) (slots_among row p ts c a) ∙ back_worth values ts ps (slots_among row p ts c a))

holds_by : (m n c d : ℤ) → m ≡ n → c ≡ d → ((m +ℤ c) ≤ℤ pos 0 → (n +ℤ d) ≤ℤ pos 0) × ((n +ℤ d) ≤ℤ pos 0 → (m +ℤ c) ≤ℤ pos 0)
holds_by m n c d e f = ((λ h. omega (arith, ints, e, f, h)), (λ h. omega (arith, ints, e, f, h)))

-- the tightened row holds where the predicate does at the threads
pub in_slots_says : (values : Var → ℤ) (row : Row) (p : Predicate) (ts : List ℕ) → IsCanonical row.term.pairs → IsInSlots row p ts → (HoldsAt values ts p.row → Holds values row) × (Holds values row → HoldsAt values ts p.row)
in_slots_says values row p ts c a =
    holds_by (pairs_value (λ x. values (at_threads ts x)) p.row.term.pairs) (pairs_value values row.term.pairs) p.row.term.constant row.term.constant (in_slots_worth values row p ts c a) a.constant
