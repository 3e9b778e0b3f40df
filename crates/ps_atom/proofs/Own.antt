-- A canonical predicate is the canonical one of its own row; and a new one that is pushed has the last number.
use Rattle.std.proofs.Common.{◌≡◌, ◌<◌, ℕ, ℤ, pos, Bool, true, false, List, [], ◌∷◌, ◌++◌, Some, length, get_or, slice_index, Contains, unsigned_abs, refl, sym, ap, ap₂, ◌∙◌, subst, inl, inr, suc, zero, arith}
use Rattle.std.specs.Int.{◌∣◌}
use Rattle.std.specs.List.{AllByRecursion, range_with_len, slice_get}
use Rattle.std.specs.declared.cmp.Ordering.{Ordering}
use Rattle.std.specs.declared.cmp.Ordering.TheVariants.{Less, Equal, Greater}
use Rattle.std.specs.Ordering.{nat_cmp, ordering_then}
use Rattle.std.proofs.lemmas.Bool.Decides.{nat_tests}
use Rattle.std.proofs.lemmas.Int.{ints}
use Rattle.std.proofs.lemmas.List.Elements.{All-from_recursion, recursion_from_All, Contains-get_or}
use Rattle.std.proofs.lemmas.List.FromFn.{length-range_with_len, get_or-range_with_len}
use Rattle.std.proofs.lemmas.Nat.Gcd.{dvd-zero}
use Rattle.std.proofs.lemmas.Option.{get_or_from_slice_get}
use Rattle.ps_term.specs.declared.row.Row.{Row}
use Rattle.ps_term.specs.declared.var.Var.{Var}
use Rattle.ps_term.specs.declared.var.Var.TheVariants.{Local}
use Rattle.ps_term.specs.Factors.{DividesAll}
use Rattle.ps_term.specs.Pairs.{IsCanonical, coefficient}
use Rattle.ps_term.specs.Tightened.{IsTightened}
use Rattle.ps_term.specs.Var.{var_eq}
use Rattle.ps_term.specs.Whole.{IsCeiling}
use Rattle.ps_term.proofs.Canonical.{coefficient-other}
use Rattle.ps_term.proofs.Ring.{one-mul}
use Rattle.ps_term.proofs.Uniqueness.{coefficient-first}
use Rattle.ps_term.proofs.Variables.{var_eq-true}
use Rattle.ps_atom.specs.Canonical.{HasSlots, IsCanonicalOf, IsCanonicalPredicate}
use Rattle.ps_atom.specs.Numbers.{IsNumberOf}
use Rattle.ps_atom.specs.Threads.{local_pairs, pairs_cmp, thread_cmp, Occurs, AreSlots}
use Rattle.ps_atom.specs.declared.predicate.Predicate.{Predicate}
use Rattle.ps_atom.proofs.Locals.{locals_by_coefficients}
use Rattle.ps_atom.proofs.Parts.{slot_of, slotted, AreAmong}
use Rattle.ps_atom.proofs.Slotting.{among, from_among, lt_or, slot_of-found}
use Rattle.ps_atom.proofs.Tightness.{all_members}

-- ---- a divisor of the new coefficients divides the old ones
divides_coefficient : (d : ℕ) (y : Var) (qs : List (Var × ℤ)) → IsCanonical qs → AllByRecursion (λ q. d ∣ unsigned_abs q.1) qs → d ∣ unsigned_abs (coefficient y qs)
divides_coefficient d y [] c a = dvd-zero d
divides_coefficient d y (q ∷ qs) c a = by_test (divides_coefficient d y qs c.2 a.1) (var_eq y q.0) refl
  where
    by_test : d ∣ unsigned_abs (coefficient y qs) → (b : Bool) → var_eq y q.0 ≡ b → d ∣ unsigned_abs (coefficient y (q ∷ qs))
    by_test rest true e = subst (λ (n : ℤ). d ∣ unsigned_abs n) (sym (ap (λ (x : Var). coefficient x (q ∷ qs)) (var_eq-true y q.0 e) ∙ coefficient-first q qs c)) a.0
    by_test rest false e = subst (λ (n : ℤ). d ∣ unsigned_abs n) (sym (coefficient-other y q qs e)) rest

kept_coefficient : (ps qs : List (Var × ℤ)) (ts : List ℕ) → HasSlots ps ts qs → AreAmong ts ps → AllByRecursion (λ p. coefficient (slotted ts p.0) qs ≡ coefficient p.0 ps) ps
kept_coefficient ps qs ts h a =
    from_among (λ p. coefficient (slotted ts p.0) qs ≡ coefficient p.0 ps) ts ps a (λ n c. h.globals n) (λ t n c m. in_slot_of t n m) (λ n c. h.havocs n)
  where
    in_slot_of : (t n : ℕ) → Contains ts t → coefficient (Local (slot_of 0 ts t) n) qs ≡ coefficient (Local t n) ps
    in_slot_of t n m =
        let f = slot_of-found 0 ts t m in
        let at : slot_of 0 ts t ≡ f.0 = omega (arith, f.1) in
        ap (λ (i : ℕ). coefficient (Local i n) qs) at ∙ (h.slots f.0 n f.2 ∙ ap (λ (u : ℕ). coefficient (Local u n) ps) f.3)

old_divided : (d : ℕ) (ps qs : List (Var × ℤ)) (ts : List ℕ) → IsCanonical qs → AllByRecursion (λ q. d ∣ unsigned_abs q.1) qs → (rs : List (Var × ℤ)) → AllByRecursion (λ p. coefficient (slotted ts p.0) qs ≡ coefficient p.0 ps) rs → AllByRecursion (λ p. coefficient p.0 ps ≡ p.1) rs → AllByRecursion (λ p. d ∣ unsigned_abs p.1) rs
old_divided d ps qs ts c a [] k m = tt
old_divided d ps qs ts c a (r ∷ rs) k m =
    (subst (λ (n : ℤ). d ∣ unsigned_abs n) (k.0 ∙ m.0) (divides_coefficient d (slotted ts r.0) qs c a), old_divided d ps qs ts c a rs k.1 m.1)

new_coprime : (ps qs : List (Var × ℤ)) (ts : List ℕ) → IsCanonical ps → IsCanonical qs → HasSlots ps ts qs → AreAmong ts ps → ((d : ℕ) → DividesAll d ps → d ≡ 1) → (d : ℕ) → DividesAll d qs → d ≡ 1
new_coprime ps qs ts c e h a coprime d divides =
    coprime d (All-from_recursion (λ p. d ∣ unsigned_abs p.1) ps (old_divided d ps qs ts e (recursion_from_All (λ q. d ∣ unsigned_abs q.1) qs divides) ps (kept_coefficient ps qs ts h a) (all_members ps c)))

-- ---- slots in order
then-Less : (o a b : Ordering) → ordering_then o a ≡ Less → b ≡ Less → ordering_then o b ≡ Less
then-Less Less a b e f = refl
then-Less Equal a b e f = f
then-Less Greater a b e f = absurd (let z : ⊥ = cc in z)

nat_cmp-Less : (m n : ℕ) → m < n → nat_cmp m n ≡ Less
nat_cmp-Less m n h = grind (arith, nat_tests)

slot_less : (ps qs : List (Var × ℤ)) (ts : List ℕ) (i j : ℕ) → IsCanonical ps → IsCanonical qs → HasSlots ps ts qs → AreSlots ps ts → i < j → j < length ts → thread_cmp qs i j ≡ Less
slot_less ps qs ts i j c d h a lt within =
    let own_i : local_pairs i qs ≡ local_pairs (slice_index ts i) ps = locals_by_coefficients qs ps i (slice_index ts i) d c (λ n. h.slots i n (omega (arith, lt, within))) in
    let own_j : local_pairs j qs ≡ local_pairs (slice_index ts j) ps = locals_by_coefficients qs ps j (slice_index ts j) d c (λ n. h.slots j n within) in
    let less : thread_cmp ps (slice_index ts i) (slice_index ts j) ≡ Less = a.ordered i j 0 lt within in
    ap₂ (λ (x y : List (ℕ × ℤ)). ordering_then (pairs_cmp x y) (nat_cmp i j)) own_i own_j ∙ then-Less (pairs_cmp (local_pairs (slice_index ts i) ps) (local_pairs (slice_index ts j) ps)) (nat_cmp (slice_index ts i) (slice_index ts j)) (nat_cmp i j) less (nat_cmp-Less i j lt)

at_range : (n i d : ℕ) → i < n → get_or (range_with_len 0 n) i d ≡ i
at_range n i d h = get_or-range_with_len 0 n i d h ∙ omega arith

range_contains : (n i : ℕ) → (Contains (range_with_len 0 n) i → i < n) × (i < n → Contains (range_with_len 0 n) i)
range_contains n i =
    ((λ m. (let within : m.0 < n = omega (arith, m.1, length-range_with_len 0 n) in let e : m.0 ≡ i = sym (at_range n m.0 i within) ∙ m.2 in omega (arith, e, within))), (λ h. (i, omega (arith, h, length-range_with_len 0 n), at_range n i i h)))

own_slots : (ps qs : List (Var × ℤ)) (ts : List ℕ) → IsCanonical ps → IsCanonical qs → HasSlots ps ts qs → AreSlots ps ts → AreSlots qs (range_with_len 0 (length ts))
own_slots ps qs ts c d h a = record {
  occurring = λ i. ((λ m. occurs i ((range_contains (length ts) i).0 m)), (λ o. (range_contains (length ts) i).1 (within i o)));
  ordered = λ i j e lt l. (let short : j < length ts = omega (arith, l, length-range_with_len 0 (length ts)) in subst (λ (x : ℕ). thread_cmp qs x (get_or (range_with_len 0 (length ts)) j e) ≡ Less) (sym (at_range (length ts) i e (omega (arith, lt, short)))) (subst (λ (y : ℕ). thread_cmp qs i y ≡ Less) (sym (at_range (length ts) j e short)) (slot_less ps qs ts i j c d h a lt short)));
}
  where
    occurs : (i : ℕ) → i < length ts → Occurs qs i
    occurs i l =
        let o = (a.occurring (slice_index ts i)).0 (Contains-get_or ts i 0 l) in
        (o.0, λ z. o.1 (sym (h.slots i o.0 l) ∙ z))

    within : (i : ℕ) → Occurs qs i → i < length ts
    within i o = elim (lt_or i (length ts)) [ inl l ↦ l | inr le ↦ absurd (o.1 (h.beyond i o.0 le)) ]

same_slots_again : (qs : List (Var × ℤ)) (ps : List (Var × ℤ)) (ts : List ℕ) → HasSlots ps ts qs → HasSlots qs (range_with_len 0 (length ts)) qs
same_slots_again qs ps ts h = record {
  slots = λ i n l. (let short : i < length ts = omega (arith, l, length-range_with_len 0 (length ts)) in ap (λ (j : ℕ). coefficient (Local j n) qs) (sym (at_range (length ts) i 0 short)));
  beyond = λ i n le. h.beyond i n (omega (arith, le, length-range_with_len 0 (length ts)));
  globals = λ n. refl;
  havocs = λ n. refl;
}

own_ceiling : (n : ℤ) → IsCeiling n (pos 1) n
own_ceiling n = record {
  reaches = omega (arith, ints, one-mul n);
  least = λ m h. omega (arith, ints, one-mul m, h);
}

own_tight : (row : Row) → ((d : ℕ) → DividesAll d row.term.pairs → d ≡ 1) → IsTightened row row
own_tight row coprime = record {
  factor = 1;
  positive = omega arith;
  coefficients = λ x. sym (one-mul (coefficient x row.term.pairs));
  coprime = coprime;
  constant = own_ceiling row.term.constant;
}

pub own_canonical : (row : Row) (p : Predicate) (ts : List ℕ) → IsCanonicalOf row p ts → IsCanonicalPredicate p
own_canonical row p ts a =
    let ps = a.tight.term.pairs in
    let qs = p.row.term.pairs in
    let s = a.in_slots in
    record {
      tight = p.row;
      tightened = own_tight p.row (new_coprime ps qs ts a.canonical s.canonical s.coefficients (among ts ps a.canonical (λ t o. (s.in_order.occurring t).1 o)) a.tightened.coprime);
      canonical = s.canonical;
      in_slots = record {
        in_order = subst (λ (n : ℕ). AreSlots qs (range_with_len 0 n)) (sym s.arity) (own_slots ps qs ts a.canonical s.canonical s.coefficients s.in_order);
        arity = sym (length-range_with_len 0 p.arity);
        coefficients = subst (λ (n : ℕ). HasSlots qs (range_with_len 0 n) qs) (sym s.arity) (same_slots_again qs ps ts s.coefficients);
        constant = refl;
        canonical = s.canonical;
      };
    }

-- ---- a new predicate, pushed
get-last : (list : List Predicate) (p : Predicate) → slice_get (list ++ p ∷ []) (length list) ≡ Some p
get-last [] p = refl
get-last (x ∷ xs) p = get-last xs p

get-before : (list : List Predicate) (p : Predicate) (k : ℕ) → k < length list → slice_get (list ++ p ∷ []) k ≡ slice_get list k
get-before [] p k h = absurd (omega (arith, h))
get-before (x ∷ xs) p zero h = refl
get-before (x ∷ xs) p (suc k) h = get-before xs p k (omega (arith, h))

pub number_pushed : (list : List Predicate) (p : Predicate) → ¬ Contains list p → IsNumberOf (list ++ p ∷ []) p (length list)
number_pushed list p none = record {
  stands = get-last list p;
  least = λ k h e. none (k, h, get_or_from_slice_get list k p p (sym (get-before list p k h) ∙ e));
}
