-- A row and a renaming of it have one canonical predicate.
use Rattle.std.proofs.Common.{◌≡◌, ◌≢◌, ◌⊎◌, ◌<◌, ◌≤◌, ℕ, ℤ, pos, ◌*ℤ◌, false, List, [], ◌∷◌, length, get_or, slice_index, Contains, map, refl, sym, ap, ap₂, ◌∙◌, subst, inl, inr, suc, arith}
use Rattle.std.specs.List.{AllByRecursion}
use Rattle.std.specs.List.Sorted.{IsPermutation}
use Rattle.std.specs.Ordering.{nat_cmp, ordering_then, is_gt}
use Rattle.std.specs.declared.cmp.Ordering.{Ordering}
use Rattle.std.specs.declared.cmp.Ordering.TheVariants.{Less, Equal, Greater}
use Rattle.std.proofs.lemmas.List.{get_or-map}
use Rattle.std.proofs.lemmas.List.Sorted.{IsPermutation-map}
use Rattle.ps_list.proofs.Members.{nothing, cons_cases, here, there}
use Rattle.ps_term.specs.declared.row.Row.{Row}
use Rattle.ps_term.specs.declared.var.Var.{Var}
use Rattle.ps_term.specs.declared.var.Var.TheVariants.{Global, Local, Havoc}
use Rattle.ps_term.specs.Pairs.{IsCanonical, coefficient}
use Rattle.ps_term.specs.Tightened.{IsTightened}
use Rattle.ps_term.specs.Whole.{IsCeiling}
use Rattle.ps_term.proofs.Uniqueness.{same_coefficients}
use Rattle.ps_atom.specs.Canonical.{IsInSlots, IsCanonicalOf}
use Rattle.ps_atom.specs.Renaming.{IsRenaming}
use Rattle.ps_atom.specs.inner.Slots.{in_slot}
use Rattle.ps_atom.specs.Threads.{local_pairs, pairs_cmp, thread_cmp, Occurs, AreSlots}
use Rattle.ps_atom.specs.declared.predicate.Predicate.{Predicate}
use Rattle.ps_atom.proofs.Chains.{IsChain, chain_from_pairs, once_from_chain}
use Rattle.ps_atom.proofs.Counts.{IsOnce}
use Rattle.ps_atom.proofs.Facts.{predicate_is}
use Rattle.ps_atom.proofs.Locals.{coefficient-slot, locals_by_coefficients}
use Rattle.ps_atom.proofs.Placing.{occurs_tight}
use Rattle.ps_atom.proofs.Slotting.{less_irr, lt_or, slots_once}
use Rattle.ps_atom.proofs.Sorting.{Own, IsUpTo, permuted_by_counts, same_counts, sorted_permuted}
use Rattle.ps_atom.proofs.Tightness.{cancel, divides_scaled, same_ceiling, same_factor}

-- ---- the tightened rows are renamings of each other
-- each new coefficient is an old one
record IsOldOf (old : List (Var × ℤ)) (n : ℤ) : Type 0 where
  pub of : Var
  pub is : n ≡ coefficient of old

new_is_old : (f : ℕ → ℕ) (old new : Row) → IsRenaming f old new → (x : Var) → coefficient x new.term.pairs ≢ pos 0 → IsOldOf old.term.pairs (coefficient x new.term.pairs)
new_is_old f old new r (Global n) z = record { of = Global n; is = r.globals n }
new_is_old f old new r (Havoc n) z = record { of = Havoc n; is = r.havocs n }
new_is_old f old new r (Local u n) z =
    let o = r.only u (n, z) in
    record { of = Local o.0 n; is = ap (λ (v : ℕ). coefficient (Local v n) new.term.pairs) (sym o.2) ∙ r.locals o.0 n o.1 }

old_is_new : (f : ℕ → ℕ) (old new : Row) → IsRenaming f old new → (x : Var) → coefficient x old.term.pairs ≢ pos 0 → IsOldOf new.term.pairs (coefficient x old.term.pairs)
old_is_new f old new r (Global n) z = record { of = Global n; is = sym (r.globals n) }
old_is_new f old new r (Havoc n) z = record { of = Havoc n; is = sym (r.havocs n) }
old_is_new f old new r (Local s n) z = record { of = Local (f s) n; is = sym (r.locals s n (n, z)) }

-- what a tightened row has, the row has too
stands_old : (row tight : Row) (x : Var) → IsTightened row tight → coefficient x tight.term.pairs ≢ pos 0 → coefficient x row.term.pairs ≢ pos 0
stands_old row tight x t z e =
    z (Rattle.ps_atom.proofs.Placing.product_zero t.factor (coefficient x tight.term.pairs) t.positive (sym (t.coefficients x) ∙ e))

one_factor : (f : ℕ → ℕ) (old new a b : Row) → IsRenaming f old new → (s : IsTightened old a) → (t : IsTightened new b) → IsCanonical a.term.pairs → IsCanonical b.term.pairs → s.factor ≡ t.factor
one_factor f old new a b r s t c d =
    same_factor a.term.pairs b.term.pairs s.factor t.factor s.coprime t.coprime
    (divides_scaled t.factor s.factor a.term.pairs c (λ x z. (let o = old_is_new f old new r x (stands_old old a x s z) in (coefficient o.of b.term.pairs, sym (t.coefficients o.of) ∙ (sym o.is ∙ s.coefficients x)))))
    (divides_scaled s.factor t.factor b.term.pairs d (λ x z. (let o = new_is_old f old new r x (stands_old new b x t z) in (coefficient o.of a.term.pairs, sym (s.coefficients o.of) ∙ (sym o.is ∙ t.coefficients x)))))

-- equal coefficients of the rows are equal ones of the tightened rows
tight_same : (old new a b : Row) (x y : Var) → (s : IsTightened old a) → (t : IsTightened new b) → s.factor ≡ t.factor → coefficient y new.term.pairs ≡ coefficient x old.term.pairs → coefficient y b.term.pairs ≡ coefficient x a.term.pairs
tight_same old new a b x y s t e h =
    cancel t.factor (coefficient y b.term.pairs) (coefficient x a.term.pairs) t.positive (sym (t.coefficients y) ∙ (h ∙ (s.coefficients x ∙ ap (λ (k : ℕ). pos k *ℤ coefficient x a.term.pairs) e)))

tight_renaming : (f : ℕ → ℕ) (old new a b : Row) → IsRenaming f old new → IsTightened old a → IsTightened new b → IsCanonical a.term.pairs → IsCanonical b.term.pairs → IsRenaming f a b
tight_renaming f old new a b r s t c d =
    let e = one_factor f old new a b r s t c d in
    record {
      apart = λ u v o p h. r.apart u v ((occurs_tight old a u s).1 o) ((occurs_tight old a v s).1 p) h;
      locals = λ u n o. tight_same old new a b (Local u n) (Local (f u) n) s t e (r.locals u n ((occurs_tight old a u s).1 o));
      only = λ u o. (let w = r.only u ((occurs_tight new b u t).1 o) in (w.0, (occurs_tight old a w.0 s).0 w.1, w.2));
      globals = λ n. tight_same old new a b (Global n) (Global n) s t e (r.globals n);
      havocs = λ n. tight_same old new a b (Havoc n) (Havoc n) s t e (r.havocs n);
      constant = sym (same_ceiling old.term.constant (pos s.factor) a.term.constant b.term.constant s.constant (subst (λ (k : ℕ). IsCeiling old.term.constant (pos k) b.term.constant) (sym e) (subst (λ (n : ℤ). IsCeiling n (pos t.factor) b.term.constant) r.constant t.constant)));
    }

-- ---- the threads in order
contains_mapped : (f : ℕ → ℕ) (xs : List ℕ) (t : ℕ) → Contains xs t → Contains (map f xs) (f t)
contains_mapped f [] t m = absurd (nothing t m)
contains_mapped f (x ∷ xs) t m = by_case (contains_mapped f xs t) (cons_cases x xs t m)
  where
    by_case : (Contains xs t → Contains (map f xs) (f t)) → (x ≡ t) ⊎ Contains xs t → Contains (f x ∷ map f xs) (f t)
    by_case g (inl e) = subst (λ (u : ℕ). Contains (f x ∷ map f xs) (f u)) e (here (f x) (map f xs))
    by_case g (inr r) = there (f x) (map f xs) (f t) (g r)

mapped_contains : (f : ℕ → ℕ) (xs : List ℕ) (u : ℕ) → Contains (map f xs) u → (t : ℕ) × Contains xs t × (f t ≡ u)
mapped_contains f [] u m = absurd (nothing u m)
mapped_contains f (x ∷ xs) u m = by_case (mapped_contains f xs u) (cons_cases (f x) (map f xs) u m)
  where
    by_case : (Contains (map f xs) u → (t : ℕ) × Contains xs t × (f t ≡ u)) → (f x ≡ u) ⊎ Contains (map f xs) u → (t : ℕ) × Contains (x ∷ xs) t × (f t ≡ u)
    by_case g (inl e) = (x, here x xs, e)
    by_case g (inr r) = (let w = g r in (w.0, there x xs w.0 w.1, w.2))

pub all_contained : (xs : List ℕ) → (P : ℕ → Type 0) → ((t : ℕ) → Contains xs t → P t) → AllByRecursion P xs
all_contained [] P h = tt
all_contained (x ∷ xs) P h = (h x (here x xs), all_contained xs P (λ t m. h t (there x xs t m)))

pub chain_mapped : {Y : Type 0} (g : ℕ → Y) (P : ℕ → Type 0) (R : ℕ → ℕ → Type 0) (S : Y → Y → Type 0) → ((x y : ℕ) → P x → P y → R x y → S (g x) (g y)) → (xs : List ℕ) → AllByRecursion P xs → IsChain R xs → IsChain S (map g xs)
chain_mapped g P R S h [] a c = tt
chain_mapped g P R S h (x ∷ xs) a c = (each xs a.1 c.0, chain_mapped g P R S h xs a.1 c.1)
  where
    each : (ys : List ℕ) → AllByRecursion P ys → AllByRecursion (R x) ys → AllByRecursion (S (g x)) (map g ys)
    each [] b r = tt
    each (y ∷ ys) b r = (h x y a.0 b.0 r.0, each ys b.1 r.1)

up_to_by : (o n : Ordering) → ordering_then o n ≡ Less → is_gt o ≡ false
up_to_by Less n e = refl
up_to_by Equal n e = refl
up_to_by Greater n e = absurd (let f : ⊥ = cc in f)

own_chain : (ps : List (Var × ℤ)) (ts : List ℕ) → AreSlots ps ts → IsChain IsUpTo (map (λ t. local_pairs t ps) ts)
own_chain ps ts a =
    chain_mapped (λ t. local_pairs t ps) (λ t. Unit {0}) (λ s t. thread_cmp ps s t ≡ Less) IsUpTo (λ s t p q l. up_to_by (pairs_cmp (local_pairs s ps) (local_pairs t ps)) (nat_cmp s t) l) ts (all_contained ts (λ t. Unit {0}) (λ t m. tt)) (chain_from_pairs (λ s t. thread_cmp ps s t ≡ Less) ts a.ordered)

same_owns : (f : ℕ → ℕ) (ps qs : List (Var × ℤ)) (ts : List ℕ) → AllByRecursion (λ t. local_pairs (f t) qs ≡ local_pairs t ps) ts → map (λ u. local_pairs u qs) (map f ts) ≡ map (λ t. local_pairs t ps) ts
same_owns f ps qs [] h = refl
same_owns f ps qs (t ∷ ts) h = ap₂ (λ (x : Own) (xs : List Own). x ∷ xs) h.0 (same_owns f ps qs ts h.1)

-- the threads' lists of pairs are the same in order
owns_renamed : (f : ℕ → ℕ) (a b : Row) (ts us : List ℕ) → IsRenaming f a b → IsCanonical a.term.pairs → IsCanonical b.term.pairs → AreSlots a.term.pairs ts → AreSlots b.term.pairs us → map (λ t. local_pairs t a.term.pairs) ts ≡ map (λ u. local_pairs u b.term.pairs) us
owns_renamed f a b ts us r c d s t =
    let ps = a.term.pairs in
    let qs = b.term.pairs in
    let occur : AllByRecursion (λ x. Occurs ps x) ts = all_contained ts (λ x. Occurs ps x) (λ x m. (s.occurring x).0 m) in
    let same : AllByRecursion (λ x. local_pairs (f x) qs ≡ local_pairs x ps) ts = all_contained ts (λ x. local_pairs (f x) qs ≡ local_pairs x ps) (λ x m. locals_by_coefficients qs ps (f x) x d c (λ n. r.locals x n ((s.occurring x).0 m))) in
    let owns : map (λ u. local_pairs u qs) (map f ts) ≡ map (λ x. local_pairs x ps) ts = same_owns f ps qs ts same in
    let apart : IsChain (λ x y. x ≢ y) (map f ts) = chain_mapped f (λ x. Occurs ps x) (λ x y. thread_cmp ps x y ≡ Less) (λ x y. x ≢ y) (λ x y o p l e. less_irr ps x (subst (λ (z : ℕ). thread_cmp ps x z ≡ Less) (sym (r.apart x y o p e)) l)) ts occur (chain_from_pairs (λ x y. thread_cmp ps x y ≡ Less) ts s.ordered) in
    let once : IsOnce (map f ts) = once_from_chain (λ x y. x ≢ y) (λ x n. n refl) (map f ts) apart in
    let into : (u : ℕ) → Contains (map f ts) u → Contains us u = (λ u m. (let w = mapped_contains f ts u m in let o = (s.occurring w.0).0 w.1 in (t.occurring u).1 (subst (λ (v : ℕ). Occurs qs v) w.2 (o.0, λ z. o.1 (sym (r.locals w.0 o.0 o) ∙ z))))) in
    let back : (u : ℕ) → Contains us u → Contains (map f ts) u = (λ u m. (let w = r.only u ((t.occurring u).0 m) in subst (λ (v : ℕ). Contains (map f ts) v) w.2 (contains_mapped f ts w.0 ((s.occurring w.0).1 w.1)))) in
    let permuted : IsPermutation (map f ts) us = permuted_by_counts (map f ts) us (same_counts (map f ts) us once (slots_once qs us t) into back) in
    sym owns ∙ sorted_permuted (map (λ u. local_pairs u qs) (map f ts)) (map (λ u. local_pairs u qs) us) (subst (λ (xs : List Own). IsChain IsUpTo xs) (sym owns) (own_chain ps ts s)) (own_chain qs us t) (IsPermutation-map (λ u. local_pairs u qs) (map f ts) us permuted)

-- ---- one predicate
long_map : {Y : Type 0} (g : ℕ → Y) (xs : List ℕ) → length (map g xs) ≡ length xs
long_map g [] = refl
long_map g (x ∷ xs) = ap suc (long_map g xs)

same_at : (ps qs : List (Var × ℤ)) (ts us : List ℕ) (i n : ℕ) → map (λ t. local_pairs t ps) ts ≡ map (λ u. local_pairs u qs) us → length ts ≡ length us → i < length ts → coefficient (Local (slice_index ts i) n) ps ≡ coefficient (Local (slice_index us i) n) qs
same_at ps qs ts us i n owns long h =
    let own : local_pairs (slice_index ts i) ps ≡ local_pairs (slice_index us i) qs = sym (get_or-map (λ t. local_pairs t ps) ts i 0 [] h) ∙ (ap (λ (xs : List Own). get_or xs i []) owns ∙ get_or-map (λ u. local_pairs u qs) us i 0 [] (omega (arith, long, h))) in
    sym (coefficient-slot 0 (slice_index ts i) n ps) ∙ (ap (λ (o : Own). coefficient (Local 0 n) (in_slot 0 o)) own ∙ coefficient-slot 0 (slice_index us i) n qs)

renamed_in_slots : (f : ℕ → ℕ) (a b : Row) (p q : Predicate) (ts us : List ℕ) → IsRenaming f a b → IsCanonical a.term.pairs → IsCanonical b.term.pairs → IsInSlots a p ts → IsInSlots b q us → p ≡ q
renamed_in_slots f a b p q ts us r c d s t =
    predicate_is p q (s.arity ∙ (long ∙ sym t.arity)) (same_coefficients p.row.term.pairs q.row.term.pairs s.canonical t.canonical same) (s.constant ∙ (sym r.constant ∙ sym t.constant))
  where
    owns : map (λ x. local_pairs x a.term.pairs) ts ≡ map (λ u. local_pairs u b.term.pairs) us
    owns = owns_renamed f a b ts us r c d s.in_order t.in_order

    long : length ts ≡ length us
    long = sym (long_map (λ x. local_pairs x a.term.pairs) ts) ∙ (ap (λ (xs : List Own). length xs) owns ∙ long_map (λ u. local_pairs u b.term.pairs) us)

    at_slot : (i n : ℕ) → (i < length ts) ⊎ (length ts ≤ i) → coefficient (Local i n) p.row.term.pairs ≡ coefficient (Local i n) q.row.term.pairs
    at_slot i n (inl h) = s.coefficients.slots i n h ∙ (same_at a.term.pairs b.term.pairs ts us i n owns long h ∙ sym (t.coefficients.slots i n (omega (arith, long, h))))
    at_slot i n (inr h) = s.coefficients.beyond i n h ∙ sym (t.coefficients.beyond i n (omega (arith, long, h)))

    same : (x : Var) → coefficient x p.row.term.pairs ≡ coefficient x q.row.term.pairs
    same (Global n) = s.coefficients.globals n ∙ (sym (r.globals n) ∙ sym (t.coefficients.globals n))
    same (Local i n) = at_slot i n (lt_or i (length ts))
    same (Havoc n) = s.coefficients.havocs n ∙ (sym (r.havocs n) ∙ sym (t.coefficients.havocs n))

pub renamed_form : (f : ℕ → ℕ) (old new : Row) (p q : Predicate) (ts us : List ℕ) → IsRenaming f old new → IsCanonicalOf old p ts → IsCanonicalOf new q us → p ≡ q
renamed_form f old new p q ts us r a b =
    renamed_in_slots f a.tight b.tight p q ts us (tight_renaming f old new a.tight b.tight r a.tightened b.tightened a.canonical b.canonical) a.canonical b.canonical a.in_slots b.in_slots
