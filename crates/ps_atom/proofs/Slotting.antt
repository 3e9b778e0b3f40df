-- The placed pairs of a row have the coefficients of its slots, and no other canonical pairs have them.
use Rattle.std.proofs.Common.{◌≡◌, ◌≢◌, ◌⊎◌, ◌==◌, ◌+◌, ◌<◌, ◌≤◌, ℕ, ℤ, pos, ◌+ℤ◌, ◌*ℤ◌, Bool, true, false, List, [], ◌∷◌, length, get_or, slice_index, AllPairs, Contains, map, if◌then◌else◌, refl, sym, ap, ap₂, ◌∙◌, subst, inl, inr, suc, zero, arith}
use Rattle.std.specs.List.{AllByRecursion}
use Rattle.std.specs.declared.cmp.Ordering.TheVariants.{Less, Equal}
use Rattle.std.proofs.lemmas.Bool.{true≢false}
use Rattle.std.proofs.lemmas.Bool.Decides.{nat_tests}
use Rattle.std.proofs.lemmas.Cmp.{tied_itself}
use Rattle.ps_list.proofs.Members.{nothing, cons_cases}
use Rattle.ps_term.specs.declared.var.Var.{Var}
use Rattle.ps_term.specs.declared.var.Var.TheVariants.{Global, Local, Havoc}
use Rattle.ps_term.specs.Pairs.{IsCanonical, pairs_value, coefficient}
use Rattle.ps_term.proofs.Uniqueness.{unit_at, pairs_value-unit_at, pairs_value-zero, same_coefficients}
use Rattle.ps_atom.specs.Canonical.{HasSlots}
use Rattle.ps_atom.specs.inner.Slots.{put_in_slots}
use Rattle.ps_atom.specs.Threads.{local_pairs, Occurs, AreSlots, thread_cmp}
use Rattle.ps_atom.proofs.Chains.{IsChain, chain_from_pairs, once_from_chain, same_chain}
use Rattle.ps_atom.proofs.Counts.{IsOnce, once-tail, once-first}
use Rattle.ps_atom.proofs.MetThreads.{occurs_first, occurs_later}
use Rattle.ps_atom.proofs.Orders.{thread_total}
use Rattle.ps_atom.proofs.Parts.{slot_of, slotted, AreAmong, placed_worth}

-- ---- slots of threads
pub slot_of-found : (k : ℕ) (ts : List ℕ) (t : ℕ) → Contains ts t → (i : ℕ) × (slot_of k ts t ≡ k + i) × (i < length ts) × (get_or ts i 0 ≡ t)
slot_of-found k [] t h = absurd (nothing t h)
slot_of-found k (s ∷ ts) t h = by_test (λ m. slot_of-found (k + 1) ts t m) (s == t) refl
  where
    inner : (s == t) ≡ false → (s ≡ t) ⊎ Contains ts t → Contains ts t
    inner f (inl e) = absurd (let y : (s == t) ≡ true = grind (arith, nat_tests) in true≢false (sym y ∙ f))
    inner f (inr m) = m

    by_test : (Contains ts t → (i : ℕ) × (slot_of (k + 1) ts t ≡ k + 1 + i) × (i < length ts) × (get_or ts i 0 ≡ t)) → (b : Bool) → (s == t) ≡ b → (i : ℕ) × ((if b then k else slot_of (k + 1) ts t) ≡ k + i) × (i < length (s ∷ ts)) × (get_or (s ∷ ts) i 0 ≡ t)
    by_test rest true e = (0, omega arith, omega arith, grind (arith, nat_tests))
    by_test rest false e = (let r = rest (inner e (cons_cases s ts t h)) in (suc r.0, omega (arith, r.1), omega (arith, r.2), r.3))

at_contains : (ts : List ℕ) (i : ℕ) → i < length ts → Contains ts (get_or ts i 0)
at_contains ts i h = Rattle.std.proofs.lemmas.List.Elements.Contains-get_or ts i 0 h

pub slot_of-at : (k : ℕ) (ts : List ℕ) (i : ℕ) → IsOnce ts → i < length ts → slot_of k ts (get_or ts i 0) ≡ k + i
slot_of-at k [] i o h = absurd (omega arith)
slot_of-at k (s ∷ ts) zero o h = let e : (s == s) ≡ true = grind (arith, nat_tests) in rw e (omega arith)
slot_of-at k (s ∷ ts) (suc i) o h =
    let inner : i < length ts = omega arith in
    let apart : s ≢ get_or ts i 0 = Rattle.ps_atom.proofs.Chains.all-contains (λ y. s ≢ y) ts (get_or ts i 0) (once-first s ts o) (at_contains ts i inner) in
    let f : (s == get_or ts i 0) ≡ false = grind (arith, nat_tests) in
    rw f (slot_of-at (k + 1) ts i (once-tail s ts o) inner ∙ omega arith)

-- the slot is the thread's exactly where the slot has the thread
slot-test : (ts : List ℕ) (slot t : ℕ) → IsOnce ts → Contains ts t → slot < length ts → (slot == slot_of 0 ts t) ≡ (get_or ts slot 0 == t)
slot-test ts slot t o m h = by_test (get_or ts slot 0 == t) refl
  where
    by_test : (b : Bool) → (get_or ts slot 0 == t) ≡ b → (slot == slot_of 0 ts t) ≡ b
    by_test true e = (let is : get_or ts slot 0 ≡ t = grind (arith, nat_tests) in let at : slot_of 0 ts t ≡ 0 + slot = subst (λ (u : ℕ). slot_of 0 ts u ≡ 0 + slot) is (slot_of-at 0 ts slot o h) in let at' : slot_of 0 ts t ≡ slot = omega (arith, at) in rw at' (grind (arith, nat_tests)))
    by_test false e = (let f = slot_of-found 0 ts t m in let no_eq : slot ≢ slot_of 0 ts t = (λ s. (let i_is : f.0 ≡ slot = omega (arith, f.1, s) in let there_is : get_or ts slot 0 ≡ t = subst (λ (i : ℕ). get_or ts i 0 ≡ t) i_is f.3 in let y : (get_or ts slot 0 == t) ≡ true = grind (arith, nat_tests) in true≢false (sym y ∙ e))) in grind (arith, nat_tests))

slot-within : (ts : List ℕ) (slot t : ℕ) → Contains ts t → length ts ≤ slot → (slot == slot_of 0 ts t) ≡ false
slot-within ts slot t m h =
    let f = slot_of-found 0 ts t m in
    let other : slot ≢ slot_of 0 ts t = (λ s. omega (arith, f.1, f.2, s, h)) in
    grind (arith, nat_tests)

-- ---- values that agree at the variables of pairs
pub same_worth : (u v : Var → ℤ) (ps : List (Var × ℤ)) → AllByRecursion (λ p. u p.0 ≡ v p.0) ps → pairs_value u ps ≡ pairs_value v ps
same_worth u v [] h = refl
same_worth u v (p ∷ ps) h = ap₂ (λ (a b : ℤ). (p.1 *ℤ a) +ℤ b) h.0 (same_worth u v ps h.1)

pub from_among : (P : Var × ℤ → Type 0) (ts : List ℕ) (ps : List (Var × ℤ)) → AreAmong ts ps → ((n : ℕ) (c : ℤ) → P (Global n, c)) → ((t n : ℕ) (c : ℤ) → Contains ts t → P (Local t n, c)) → ((n : ℕ) (c : ℤ) → P (Havoc n, c)) → AllByRecursion P ps
from_among P ts [] a g l h = tt
from_among P ts ((Global n, c) ∷ ps) a g l h = (g n c, from_among P ts ps a.1 g l h)
from_among P ts ((Local t n, c) ∷ ps) a g l h = (l t n c (a.0 t n refl), from_among P ts ps a.1 g l h)
from_among P ts ((Havoc n, c) ∷ ps) a g l h = (h n c, from_among P ts ps a.1 g l h)

coefficient_is : (x y : Var) (ts : List ℕ) (ps : List (Var × ℤ)) → IsOnce ts → AreAmong ts ps → AllByRecursion (λ p. unit_at x (slotted ts p.0) ≡ unit_at y p.0) ps → coefficient x (put_in_slots (map (λ t. local_pairs t ps) ts) ps) ≡ coefficient y ps
coefficient_is x y ts ps o a h =
    sym (pairs_value-unit_at x (put_in_slots (map (λ t. local_pairs t ps) ts) ps)) ∙ (placed_worth (unit_at x) ts ps o a ∙ (same_worth (λ z. unit_at x (slotted ts z)) (unit_at y) ps h ∙ pairs_value-unit_at y ps))

unit_by : (slot slot' n n' : ℕ) (s s' : ℕ) → (slot == slot') ≡ (s == s') → unit_at (Local slot n) (Local slot' n') ≡ unit_at (Local s n) (Local s' n')
unit_by slot slot' n n' s s' e = rw e refl

coefficient_none : (slot n : ℕ) (ts : List ℕ) (ps : List (Var × ℤ)) → IsOnce ts → AreAmong ts ps → length ts ≤ slot → let zero_z : ℤ = pos 0 in coefficient (Local slot n) (put_in_slots (map (λ t. local_pairs t ps) ts) ps) ≡ zero_z
coefficient_none slot n ts ps o a h =
    sym (pairs_value-unit_at (Local slot n) (put_in_slots (map (λ t. local_pairs t ps) ts) ps)) ∙ (placed_worth (unit_at (Local slot n)) ts ps o a ∙ (same_worth (λ z. unit_at (Local slot n) (slotted ts z)) (λ _. pos 0) ps (from_among (λ p. unit_at (Local slot n) (slotted ts p.0) ≡ pos 0) ts ps a (λ m c. refl) (λ t m c at. (let f : (slot == slot_of 0 ts t) ≡ false = slot-within ts slot t at h in rw f refl)) (λ m c. refl)) ∙ pairs_value-zero ps))

pub placed_slots : (ts : List ℕ) (ps : List (Var × ℤ)) → IsOnce ts → AreAmong ts ps → HasSlots ps ts (put_in_slots (map (λ t. local_pairs t ps) ts) ps)
placed_slots ts ps o a = record {
  slots = λ slot n h. coefficient_is (Local slot n) (Local (slice_index ts slot) n) ts ps o a (from_among (λ p. unit_at (Local slot n) (slotted ts p.0) ≡ unit_at (Local (slice_index ts slot) n) p.0) ts ps a (λ m c. refl) (λ t m c at. unit_by slot (slot_of 0 ts t) n m (slice_index ts slot) t (slot-test ts slot t o at h)) (λ m c. refl));
  beyond = λ slot n h. coefficient_none slot n ts ps o a h;
  globals = λ n. coefficient_is (Global n) (Global n) ts ps o a (from_among (λ p. unit_at (Global n) (slotted ts p.0) ≡ unit_at (Global n) p.0) ts ps a (λ m c. refl) (λ t m c at. refl) (λ m c. refl));
  havocs = λ n. coefficient_is (Havoc n) (Havoc n) ts ps o a (from_among (λ p. unit_at (Havoc n) (slotted ts p.0) ≡ unit_at (Havoc n) p.0) ts ps a (λ m c. refl) (λ t m c at. refl) (λ m c. refl));
}

-- ---- slots determine canonical pairs
pub lt_or : (m n : ℕ) → (m < n) ⊎ (n ≤ m)
lt_or m n = by_test (Rattle.std.proofs.Common.ltb m n) refl
  where
    by_test : (b : Bool) → Rattle.std.proofs.Common.ltb m n ≡ b → (m < n) ⊎ (n ≤ m)
    by_test true e = inl (grind (arith, nat_tests))
    by_test false e = inr (grind (arith, nat_tests))

pub slots_unique : (ps : List (Var × ℤ)) (ts : List ℕ) (ls rs : List (Var × ℤ)) → HasSlots ps ts ls → HasSlots ps ts rs → IsCanonical ls → IsCanonical rs → ls ≡ rs
slots_unique ps ts ls rs a b c d = same_coefficients ls rs c d same
  where
    same : (x : Var) → coefficient x ls ≡ coefficient x rs
    same (Global n) = a.globals n ∙ sym (b.globals n)
    same (Local slot n) = elim (lt_or slot (length ts)) [ inl lt ↦ a.slots slot n lt ∙ sym (b.slots slot n lt) | inr le ↦ a.beyond slot n le ∙ sym (b.beyond slot n le) ]
    same (Havoc n) = a.havocs n ∙ sym (b.havocs n)

-- ---- the threads of a row

pub less_irr : (ps : List (Var × ℤ)) (t : ℕ) → thread_cmp ps t t ≡ Less → ⊥
less_irr ps t h = let e : thread_cmp ps t t ≡ Equal = tied_itself (thread_total ps) t in cc

pub less_asym : (ps : List (Var × ℤ)) (s t : ℕ) → thread_cmp ps s t ≡ Less → thread_cmp ps t s ≡ Less → ⊥
less_asym ps s t h g = less_irr ps s ((thread_total ps).trans s t s h g)

pub slots_once : (ps : List (Var × ℤ)) (ts : List ℕ) → AreSlots ps ts → IsOnce ts
slots_once ps ts a =
    once_from_chain (λ s t. thread_cmp ps s t ≡ Less) (less_irr ps) ts (chain_from_pairs (λ s t. thread_cmp ps s t ≡ Less) ts a.ordered)

pub same_slots : (ps : List (Var × ℤ)) (ts us : List ℕ) → AreSlots ps ts → AreSlots ps us → ts ≡ us
same_slots ps ts us a b =
    same_chain (λ s t. thread_cmp ps s t ≡ Less) (less_irr ps) (less_asym ps) ts us (chain_from_pairs (λ s t. thread_cmp ps s t ≡ Less) ts a.ordered) (chain_from_pairs (λ s t. thread_cmp ps s t ≡ Less) us b.ordered) (λ t m. (b.occurring t).1 ((a.occurring t).0 m)) (λ t m. (a.occurring t).1 ((b.occurring t).0 m))

-- the threads that occur have the pairs' locals
pub among : (ts : List ℕ) (ps : List (Var × ℤ)) → IsCanonical ps → ((t : ℕ) → Occurs ps t → Contains ts t) → AreAmong ts ps
among ts [] c f = tt
among ts (p ∷ ps) c f =
    ((λ t n is. f t (occurs_first p ps t n c is)), among ts ps c.2 (λ t o. f t (occurs_later p ps t c o)))
