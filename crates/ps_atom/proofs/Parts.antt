-- Canonical pairs with slots put for their threads: they are canonical, and what they are worth.
use Rattle.std.proofs.Common.{◌≡◌, ◌≢◌, ◌⊎◌, ◌==◌, ◌+◌, ◌≤◌, ℕ, ℤ, pos, ◌+ℤ◌, ◌*ℤ◌, Bool, true, false, cond, List, [], ◌∷◌, ◌++◌, Contains, Some, None, append_assoc, filter, map, if◌then◌else◌, refl, sym, ap, ◌∙◌, subst, inl, inr, arith}
use Rattle.std.specs.List.{AllByRecursion, cons_option}
use Rattle.std.proofs.lemmas.Bool.{false≢true, true≢false}
use Rattle.std.proofs.lemmas.Bool.Decides.{nat_tests}
use Rattle.std.proofs.lemmas.Int.{ints}
use Rattle.ps_list.proofs.Members.{nothing, cons_cases}
use Rattle.ps_term.specs.declared.var.Var.{Var}
use Rattle.ps_term.specs.declared.var.Var.TheVariants.{Global, Local, Havoc}
use Rattle.ps_term.specs.Var.{var_lt}
use Rattle.ps_term.specs.Pairs.{IsBelow, IsCanonical, pairs_value}
use Rattle.ps_term.proofs.Canonical.{IsBelowAll, IsBelowAll-canonical, pairs_value-append}
use Rattle.ps_atom.specs.inner.Slots.{is_global, is_havoc, in_slot, in_slots, put_in_slots}
use Rattle.ps_atom.specs.Threads.{local_pairs}
use Rattle.ps_atom.proofs.Counts.{IsOnce, once-tail, once-first}

-- ---- canonical
below_from_all : (x : Var) (ps : List (Var × ℤ)) → IsBelowAll x ps → IsBelow x ps
below_from_all x [] h = tt
below_from_all x (p ∷ ps) h = h.0

all_append : (P : Var × ℤ → Type 0) (ps qs : List (Var × ℤ)) → AllByRecursion P ps → AllByRecursion P qs → AllByRecursion P (ps ++ qs)
all_append P [] qs h g = g
all_append P (p ∷ ps) qs h g = (h.0, all_append P ps qs h.1 g)

all_weaker : (P Q : Var × ℤ → Type 0) → ((p : Var × ℤ) → P p → Q p) → (ps : List (Var × ℤ)) → AllByRecursion P ps → AllByRecursion Q ps
all_weaker P Q f [] h = tt
all_weaker P Q f (p ∷ ps) h = (f p h.0, all_weaker P Q f ps h.1)

IsCanonical-append : (ps qs : List (Var × ℤ)) → IsCanonical ps → IsCanonical qs → AllByRecursion (λ p. IsBelowAll p.0 qs) ps → IsCanonical (ps ++ qs)
IsCanonical-append [] qs c d h = d
IsCanonical-append (p ∷ ps) qs c d h =
    (c.0, below_from_all p.0 (ps ++ qs) (all_append (λ q. var_lt p.0 q.0 ≡ true) ps qs (IsBelowAll-canonical p.0 ps c.1 c.2) h.0), IsCanonical-append ps qs c.2 d h.1)

all_filter : (P : Var × ℤ → Type 0) (test : Var × ℤ → Bool) (ps : List (Var × ℤ)) → AllByRecursion P ps → AllByRecursion P (filter test ps)
all_filter P test [] h = tt
all_filter P test (p ∷ ps) h = by_test (all_filter P test ps h.1) (test p)
  where
    by_test : AllByRecursion P (filter test ps) → (b : Bool) → AllByRecursion P (cond b (p ∷ filter test ps) (filter test ps))
    by_test rest true = (h.0, rest)
    by_test rest false = rest

IsCanonical-filter : (test : Var × ℤ → Bool) (ps : List (Var × ℤ)) → IsCanonical ps → IsCanonical (filter test ps)
IsCanonical-filter test [] c = tt
IsCanonical-filter test (p ∷ ps) c = by_test (IsCanonical-filter test ps c.2) (test p)
  where
    by_test : IsCanonical (filter test ps) → (b : Bool) → IsCanonical (cond b (p ∷ filter test ps) (filter test ps))
    by_test rest true = (c.0, below_from_all p.0 (filter test ps) (all_filter (λ q. var_lt p.0 q.0 ≡ true) test ps (IsBelowAll-canonical p.0 ps c.1 c.2)), rest)
    by_test rest false = rest

filtered : (test : Var × ℤ → Bool) (ps : List (Var × ℤ)) → AllByRecursion (λ p. test p ≡ true) (filter test ps)
filtered test [] = tt
filtered test (p ∷ ps) = by_test (filtered test ps) (test p) refl
  where
    by_test : AllByRecursion (λ q. test q ≡ true) (filter test ps) → (b : Bool) → test p ≡ b → AllByRecursion (λ q. test q ≡ true) (cond b (p ∷ filter test ps) (filter test ps))
    by_test rest true e = (e, rest)
    by_test rest false e = rest

local_lt : (k t m s n : ℕ) → var_lt (Local t m) (Local s n) ≡ true → (s == t) ≡ true → var_lt (Local k m) (Local k n) ≡ true
local_lt k t m s n h e = grind (arith, nat_tests)

-- a slot's pairs keep the order of the thread's
slot_below : (k t m : ℕ) (ps : List (Var × ℤ)) → IsBelowAll (Local t m) ps → IsBelowAll (Local k m) (in_slot k (local_pairs t ps))
slot_below k t m [] h = tt
slot_below k t m ((Global n, c) ∷ ps) h = slot_below k t m ps h.1
slot_below k t m ((Havoc n, c) ∷ ps) h = slot_below k t m ps h.1
slot_below k t m ((Local s n, c) ∷ ps) h = by_test (slot_below k t m ps h.1) (s == t) refl
  where
    by_test : IsBelowAll (Local k m) (in_slot k (local_pairs t ps)) → (b : Bool) → (s == t) ≡ b → IsBelowAll (Local k m) (in_slot k (cons_option (if b then Some (n, c) else None) (local_pairs t ps)))
    by_test rest true e = (local_lt k t m s n h.0 e, rest)
    by_test rest false e = rest

pub IsCanonical-slot : (k t : ℕ) (ps : List (Var × ℤ)) → IsCanonical ps → IsCanonical (in_slot k (local_pairs t ps))
IsCanonical-slot k t [] c = tt
IsCanonical-slot k t ((Global n, d) ∷ ps) c = IsCanonical-slot k t ps c.2
IsCanonical-slot k t ((Havoc n, d) ∷ ps) c = IsCanonical-slot k t ps c.2
IsCanonical-slot k t ((Local s n, d) ∷ ps) c = by_test (IsCanonical-slot k t ps c.2) (s == t) refl
  where
    by_test : IsCanonical (in_slot k (local_pairs t ps)) → (b : Bool) → (s == t) ≡ b → IsCanonical (in_slot k (cons_option (if b then Some (n, d) else None) (local_pairs t ps)))
    by_test rest true e = (let same : s ≡ t = grind (arith, nat_tests) in (c.0, below_from_all (Local k n) (in_slot k (local_pairs t ps)) (slot_below k t n ps (subst (λ (u : ℕ). IsBelowAll (Local u n) ps) same (IsBelowAll-canonical (Local s n) ps c.1 c.2))), rest))
    by_test rest false e = rest

-- the variable is a local of the slot, or of a slot from here on, or a havoc
abbrev IsOfSlot : ℕ → Var → Type 0
IsOfSlot k (Global _) = ⊥
IsOfSlot k (Local s _) = s ≡ k
IsOfSlot k (Havoc _) = ⊥

abbrev IsFromSlot : ℕ → Var → Type 0
IsFromSlot k (Global _) = ⊥
IsFromSlot k (Local s _) = k ≤ s
IsFromSlot k (Havoc _) = Unit {0}

of_slot : (k : ℕ) (own : List (ℕ × ℤ)) → AllByRecursion (λ p. IsOfSlot k p.0) (in_slot k own)
of_slot k [] = tt
of_slot k (o ∷ own) = (refl, of_slot k own)

of-from : (k : ℕ) (x : Var) → IsOfSlot k x → IsFromSlot k x
of-from k (Global _) h = h
of-from k (Local s _) h = omega (arith, h)
of-from k (Havoc _) h = tt

more-from : (k : ℕ) (x : Var) → IsFromSlot (k + 1) x → IsFromSlot k x
more-from k (Global _) h = h
more-from k (Local s _) h = omega (arith, h)
more-from k (Havoc _) h = tt

of-lt-from : (k : ℕ) (x y : Var) → IsOfSlot k x → IsFromSlot (k + 1) y → var_lt x y ≡ true
of-lt-from k (Global _) y h g = absurd h
of-lt-from k (Havoc _) y h g = absurd h
of-lt-from k (Local s m) (Global _) h g = absurd g
of-lt-from k (Local s m) (Local u n) h g = grind (arith, nat_tests, h, g)
of-lt-from k (Local s m) (Havoc _) h g = refl

slots_from : (k : ℕ) (ts : List ℕ) (ps hs : List (Var × ℤ)) → AllByRecursion (λ p. is_havoc p.0 ≡ true) hs → AllByRecursion (λ p. IsFromSlot k p.0) (in_slots k (map (λ t. local_pairs t ps) ts) ++ hs)
slots_from k [] ps [] v = tt
slots_from k [] ps ((Global n, c) ∷ hs) v = absurd (false≢true v.0)
slots_from k [] ps ((Local s n, c) ∷ hs) v = absurd (false≢true v.0)
slots_from k [] ps ((Havoc n, c) ∷ hs) v = (tt, slots_from k [] ps hs v.1)
slots_from k (t ∷ ts) ps hs v =
    let here_on : AllByRecursion (λ p. IsFromSlot k p.0) (in_slot k (local_pairs t ps)) = all_weaker (λ p. IsOfSlot k p.0) (λ p. IsFromSlot k p.0) (λ p h. of-from k p.0 h) (in_slot k (local_pairs t ps)) (of_slot k (local_pairs t ps)) in
    let later : AllByRecursion (λ p. IsFromSlot k p.0) (in_slots (k + 1) (map (λ t. local_pairs t ps) ts) ++ hs) = all_weaker (λ p. IsFromSlot (k + 1) p.0) (λ p. IsFromSlot k p.0) (λ p h. more-from k p.0 h) (in_slots (k + 1) (map (λ t. local_pairs t ps) ts) ++ hs) (slots_from (k + 1) ts ps hs v) in
    subst (λ (qs : List (Var × ℤ)). AllByRecursion (λ p. IsFromSlot k p.0) qs) (sym (append_assoc (in_slot k (local_pairs t ps)) (in_slots (k + 1) (map (λ t. local_pairs t ps) ts)) hs)) (all_append (λ p. IsFromSlot k p.0) (in_slot k (local_pairs t ps)) (in_slots (k + 1) (map (λ t. local_pairs t ps) ts) ++ hs) here_on later)

below_later : (k : ℕ) (x : Var) (qs : List (Var × ℤ)) → IsOfSlot k x → AllByRecursion (λ p. IsFromSlot (k + 1) p.0) qs → IsBelowAll x qs
below_later k x qs h g = all_weaker (λ p. IsFromSlot (k + 1) p.0) (λ p. var_lt x p.0 ≡ true) (λ p f. of-lt-from k x p.0 h f) qs g

IsCanonical-slots : (k : ℕ) (ts : List ℕ) (ps hs : List (Var × ℤ)) → IsCanonical ps → IsCanonical hs → AllByRecursion (λ p. is_havoc p.0 ≡ true) hs → IsCanonical (in_slots k (map (λ t. local_pairs t ps) ts) ++ hs)
IsCanonical-slots k [] ps hs c d v = d
IsCanonical-slots k (t ∷ ts) ps hs c d v =
    let later = slots_from (k + 1) ts ps hs v in
    subst (λ (qs : List (Var × ℤ)). IsCanonical qs) (sym (append_assoc (in_slot k (local_pairs t ps)) (in_slots (k + 1) (map (λ t. local_pairs t ps) ts)) hs)) (IsCanonical-append (in_slot k (local_pairs t ps)) (in_slots (k + 1) (map (λ t. local_pairs t ps) ts) ++ hs) (IsCanonical-slot k t ps c) (IsCanonical-slots (k + 1) ts ps hs c d v) (all_weaker (λ p. IsOfSlot k p.0) (λ p. IsBelowAll p.0 (in_slots (k + 1) (map (λ t. local_pairs t ps) ts) ++ hs)) (λ p h. below_later k p.0 (in_slots (k + 1) (map (λ t. local_pairs t ps) ts) ++ hs) h later) (in_slot k (local_pairs t ps)) (of_slot k (local_pairs t ps))))

global-lt : (x y : Var) → is_global x ≡ true → IsFromSlot 0 y → var_lt x y ≡ true
global-lt (Global m) (Global n) g f = absurd f
global-lt (Global m) (Local s n) g f = refl
global-lt (Global m) (Havoc n) g f = refl
global-lt (Local s m) y g f = absurd (false≢true g)
global-lt (Havoc m) y g f = absurd (false≢true g)

pub placed_canonical : (ts : List ℕ) (ps : List (Var × ℤ)) → IsCanonical ps → IsCanonical (put_in_slots (map (λ t. local_pairs t ps) ts) ps)
placed_canonical ts ps c =
    let globals = filter (λ (p : Var × ℤ). is_global p.0) ps in
    let havocs = filter (λ (p : Var × ℤ). is_havoc p.0) ps in
    let rest = in_slots 0 (map (λ t. local_pairs t ps) ts) ++ havocs in
    let are_havocs : AllByRecursion (λ p. is_havoc p.0 ≡ true) havocs = filtered (λ (p : Var × ℤ). is_havoc p.0) ps in
    let from : AllByRecursion (λ p. IsFromSlot 0 p.0) rest = slots_from 0 ts ps havocs are_havocs in
    IsCanonical-append globals rest (IsCanonical-filter (λ p. is_global p.0) ps c) (IsCanonical-slots 0 ts ps havocs c (IsCanonical-filter (λ p. is_havoc p.0) ps c) are_havocs) (all_weaker (λ p. is_global p.0 ≡ true) (λ p. IsBelowAll p.0 rest) (λ p g. all_weaker (λ q. IsFromSlot 0 q.0) (λ q. var_lt p.0 q.0 ≡ true) (λ q f. global-lt p.0 q.0 g f) rest from) globals (filtered (λ (p : Var × ℤ). is_global p.0) ps))

-- ---- what the placed pairs are worth
-- the slot of a thread, from this one on
abbrev pub slot_of : ℕ → List ℕ → ℕ → ℕ
slot_of k [] t = k
slot_of k (u ∷ us) t = if u == t then k else slot_of (k + 1) us t

-- the variable with the slot put for its thread
abbrev pub slotted : List ℕ → Var → Var
slotted ts (Global n) = Global n
slotted ts (Local t n) = Local (slot_of 0 ts t) n
slotted ts (Havoc n) = Havoc n

-- the threads of the pairs are among these
abbrev pub AreAmong : List ℕ → List (Var × ℤ) → Type 0
AreAmong ts ps = AllByRecursion (λ p. (t n : ℕ) → p.0 ≡ Local t n → Contains ts t) ps

absent : (u : Var → ℤ) (k t n : ℕ) (c : ℤ) (ts : List ℕ) (ps : List (Var × ℤ)) → AllByRecursion (λ s. t ≢ s) ts → in_slots k (map (λ s. local_pairs s ((Local t n, c) ∷ ps)) ts) ≡ in_slots k (map (λ s. local_pairs s ps) ts)
absent u k t n c [] ps h = refl
absent u k t n c (s ∷ ts) ps h =
    let other : (t == s) ≡ false = grind (arith, nat_tests, h.0) in
    rw other (ap (λ (qs : List (Var × ℤ)). in_slot k (local_pairs s ps) ++ qs) (absent u (k + 1) t n c ts ps h.1))

regroup : (a b c : ℤ) → (a +ℤ b) +ℤ c ≡ a +ℤ (b +ℤ c)
regroup a b c = omega (arith, ints)

swapped : (a b c : ℤ) → a +ℤ (b +ℤ c) ≡ b +ℤ (a +ℤ c)
swapped a b c = omega (arith, ints)

-- a pair of a local adds what it is worth in the slot of its thread
slots_step : (u : Var → ℤ) (k t n : ℕ) (c : ℤ) (ts : List ℕ) (ps : List (Var × ℤ)) → IsOnce ts → Contains ts t → pairs_value u (in_slots k (map (λ s. local_pairs s ((Local t n, c) ∷ ps)) ts)) ≡ ((c *ℤ u (Local (slot_of k ts t) n)) +ℤ pairs_value u (in_slots k (map (λ s. local_pairs s ps) ts)))
slots_step u k t n c [] ps o h = absurd (nothing t h)
slots_step u k t n c (s ∷ ts) ps o h =
    by_test (λ m. slots_step u (k + 1) t n c ts ps (once-tail s ts o) m) (t == s) refl (s == t) refl
  where
    by_test : (Contains ts t → pairs_value u (in_slots (k + 1) (map (λ s. local_pairs s ((Local t n, c) ∷ ps)) ts)) ≡ ((c *ℤ u (Local (slot_of (k + 1) ts t) n)) +ℤ pairs_value u (in_slots (k + 1) (map (λ s. local_pairs s ps) ts)))) → (a : Bool) → (t == s) ≡ a → (b : Bool) → (s == t) ≡ b → pairs_value u (in_slot k (cons_option (if a then Some (n, c) else None) (local_pairs s ps)) ++ in_slots (k + 1) (map (λ s. local_pairs s ((Local t n, c) ∷ ps)) ts)) ≡ ((c *ℤ u (Local (if b then k else slot_of (k + 1) ts t) n)) +ℤ pairs_value u (in_slot k (local_pairs s ps) ++ in_slots (k + 1) (map (λ s. local_pairs s ps) ts)))
    by_test rest true e true f =
        (let same : s ≡ t = grind (arith, nat_tests) in
        let apart : AllByRecursion (λ r. t ≢ r) ts = subst (λ (q : ℕ). AllByRecursion (λ r. q ≢ r) ts) same (once-first s ts o) in
        ap (λ (qs : List (Var × ℤ)). (c *ℤ u (Local k n)) +ℤ pairs_value u (in_slot k (local_pairs s ps) ++ qs)) (absent u (k + 1) t n c ts ps apart))
    by_test rest false e false f =
        (let inner : Contains ts t = other_member (cons_cases s ts t h) f in
        pairs_value-append u (in_slot k (local_pairs s ps)) (in_slots (k + 1) (map (λ s. local_pairs s ((Local t n, c) ∷ ps)) ts)) ∙ (ap (λ (z : ℤ). pairs_value u (in_slot k (local_pairs s ps)) +ℤ z) (rest inner) ∙ (swapped (pairs_value u (in_slot k (local_pairs s ps))) (c *ℤ u (Local (slot_of (k + 1) ts t) n)) (pairs_value u (in_slots (k + 1) (map (λ s. local_pairs s ps) ts))) ∙ ap (λ (z : ℤ). (c *ℤ u (Local (slot_of (k + 1) ts t) n)) +ℤ z) (sym (pairs_value-append u (in_slot k (local_pairs s ps)) (in_slots (k + 1) (map (λ s. local_pairs s ps) ts)))))))
      where
        other_member : (s ≡ t) ⊎ Contains ts t → (s == t) ≡ false → Contains ts t
        other_member (inl is) g = absurd (let y : (s == t) ≡ true = grind (arith, nat_tests) in true≢false (sym y ∙ g))
        other_member (inr m) g = m
    by_test rest true e false f = absurd (let z : s ≡ t = grind (arith, nat_tests) in let y : (s == t) ≡ true = grind (arith, nat_tests) in true≢false (sym y ∙ f))
    by_test rest false e true f = absurd (let z : s ≡ t = grind (arith, nat_tests) in let y : (t == s) ≡ true = grind (arith, nat_tests) in true≢false (sym y ∙ e))

parts_value : (u : Var → ℤ) (gs ss hs : List (Var × ℤ)) → pairs_value u (gs ++ (ss ++ hs)) ≡ (pairs_value u gs +ℤ (pairs_value u ss +ℤ pairs_value u hs))
parts_value u gs ss hs = pairs_value-append u gs (ss ++ hs) ∙ ap (λ (z : ℤ). pairs_value u gs +ℤ z) (pairs_value-append u ss hs)

second : (g x s h v : ℤ) → (g +ℤ (s +ℤ h)) ≡ v → (g +ℤ ((x +ℤ s) +ℤ h)) ≡ (x +ℤ v)
second g x s h v e = omega (arith, ints)

third : (g s x h v : ℤ) → (g +ℤ (s +ℤ h)) ≡ v → (g +ℤ (s +ℤ (x +ℤ h))) ≡ (x +ℤ v)
third g s x h v e = omega (arith, ints)

first : (x g s h v : ℤ) → (g +ℤ (s +ℤ h)) ≡ v → ((x +ℤ g) +ℤ (s +ℤ h)) ≡ (x +ℤ v)
first x g s h v e = omega (arith, ints)

no_slots : (u : Var → ℤ) (k : ℕ) (ts : List ℕ) → let zero_z : ℤ = pos 0 in pairs_value u (in_slots k (map (λ s. local_pairs s []) ts)) ≡ zero_z
no_slots u k [] = refl
no_slots u k (t ∷ ts) = no_slots u (k + 1) ts

parts_worth : (u : Var → ℤ) (ts : List ℕ) (ps : List (Var × ℤ)) → IsOnce ts → AreAmong ts ps → (pairs_value u (filter (λ p. is_global p.0) ps) +ℤ (pairs_value u (in_slots 0 (map (λ t. local_pairs t ps) ts)) +ℤ pairs_value u (filter (λ p. is_havoc p.0) ps))) ≡ pairs_value (λ x. u (slotted ts x)) ps
parts_worth u ts [] o a = let h = no_slots u 0 ts in omega (arith, ints, h)
parts_worth u ts ((Global n, c) ∷ ps) o a =
    first (c *ℤ u (Global n)) (pairs_value u (filter (λ p. is_global p.0) ps)) (pairs_value u (in_slots 0 (map (λ t. local_pairs t ps) ts))) (pairs_value u (filter (λ p. is_havoc p.0) ps)) (pairs_value (λ x. u (slotted ts x)) ps) (parts_worth u ts ps o a.1)
parts_worth u ts ((Local t n, c) ∷ ps) o a =
    ap (λ (z : ℤ). pairs_value u (filter (λ p. is_global p.0) ps) +ℤ (z +ℤ pairs_value u (filter (λ p. is_havoc p.0) ps))) (slots_step u 0 t n c ts ps o (a.0 t n refl)) ∙ second (pairs_value u (filter (λ p. is_global p.0) ps)) (c *ℤ u (Local (slot_of 0 ts t) n)) (pairs_value u (in_slots 0 (map (λ t. local_pairs t ps) ts))) (pairs_value u (filter (λ p. is_havoc p.0) ps)) (pairs_value (λ x. u (slotted ts x)) ps) (parts_worth u ts ps o a.1)
parts_worth u ts ((Havoc n, c) ∷ ps) o a =
    third (pairs_value u (filter (λ p. is_global p.0) ps)) (pairs_value u (in_slots 0 (map (λ t. local_pairs t ps) ts))) (c *ℤ u (Havoc n)) (pairs_value u (filter (λ p. is_havoc p.0) ps)) (pairs_value (λ x. u (slotted ts x)) ps) (parts_worth u ts ps o a.1)

pub placed_worth : (u : Var → ℤ) (ts : List ℕ) (ps : List (Var × ℤ)) → IsOnce ts → AreAmong ts ps → pairs_value u (put_in_slots (map (λ t. local_pairs t ps) ts) ps) ≡ pairs_value (λ x. u (slotted ts x)) ps
placed_worth u ts ps o a =
    parts_value u (filter (λ p. is_global p.0) ps) (in_slots 0 (map (λ t. local_pairs t ps) ts)) (filter (λ p. is_havoc p.0) ps) ∙ parts_worth u ts ps o a
