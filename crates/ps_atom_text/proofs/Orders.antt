-- Lists that ascend: with one more member, and as sorted lists.
use Rattle.std.proofs.Common.{◌≡◌, ℕ, zero, suc, ◌+◌, ◌-◌, ◌<◌, Bool, true, false, ◌&&◌, List, [], ◌∷◌, ◌++◌, map, length, get_or, Option, refl, sym, ap, subst, ◌∙◌, arith}
use Rattle.std.specs.Prelude.{slice_get, slice_index, nat_lt}
use Rattle.std.specs.List.{AllByRecursion}
use Rattle.std.specs.List.Sorted.{IsStrictlyIncreasing, IsStrictlySortedBy}
use Rattle.std.specs.Ordering.{is_lt}
use Rattle.std.specs.declared.cmp.Ordering.{Ordering}
use Rattle.std.specs.declared.cmp.Ordering.TheVariants.{Less, Equal, Greater}
use Rattle.std.proofs.lemmas.Bool.{and_parts, and_from, lt-ltb, ltb-true}
use Rattle.std.specs.Cmp.{IsTotalOrder}
use Rattle.std.proofs.lemmas.Cmp.{nat_cmp_total, nat_list_cmp_total, on_total, then_total}
use Rattle.std.proofs.lemmas.Map.Keys.{sorted_from_all_adjacent, sorted_head, sorted_tail}
use Rattle.ps_atom.specs.Atoms.{atom_cmp}
use Rattle.ps_atom.specs.declared.atom.Atom.{Atom}
use Rattle.ps_atom_text.specs.Forms.{places_ascend}
use Rattle.ps_atom_text.specs.inner.Last.{is_atom_after, is_thread_after}
use Rattle.ps_triple.specs.Ascending.{ascend, atom_is_before_all}

-- ---- one more member

and_assoc : (a b c : Bool) → (a && (b && c)) ≡ ((a && b) && c)
and_assoc true b c = refl
and_assoc false b c = refl

last_of : {X : Type 0} (x y : X) (ys : List X) → slice_get (x ∷ y ∷ ys) (length (x ∷ y ∷ ys) - 1) ≡ slice_get (y ∷ ys) (length (y ∷ ys) - 1)
last_of x y ys = ap (slice_get (x ∷ y ∷ ys)) (one (length ys))
  where
    one : (n : ℕ) → suc (suc n) - 1 ≡ suc (suc n - 1)
    one n = omega arith

pub ascend-push : (qs : List Atom) (q : Atom) → ascend (qs ++ q ∷ []) ≡ (ascend qs && is_atom_after (slice_get qs (length qs - 1)) q)
ascend-push [] q = refl
ascend-push (r ∷ []) q = ends (is_lt (atom_cmp r q))
  where
    ends : (t : Bool) → (t && true) ≡ (true && t)
    ends true = refl
    ends false = refl
ascend-push (r ∷ s ∷ qs) q =
    ap (λ (t : Bool). is_lt (atom_cmp r s) && t) (ascend-push (s ∷ qs) q)
    ∙ and_assoc (is_lt (atom_cmp r s)) (ascend (s ∷ qs)) (is_atom_after (slice_get (s ∷ qs) (length (s ∷ qs) - 1)) q)
    ∙ ap (λ (o : Option Atom). ascend (r ∷ s ∷ qs) && is_atom_after o q) (sym (last_of r s qs))

pub places_ascend-push : (ps : List (ℕ × ℕ)) (p : ℕ × ℕ) → places_ascend (ps ++ p ∷ []) ≡ (places_ascend ps && is_thread_after (slice_get ps (length ps - 1)) p.0)
places_ascend-push [] p = refl
places_ascend-push (r ∷ []) p = ends (nat_lt r.0 p.0)
  where
    ends : (t : Bool) → (t && true) ≡ (true && t)
    ends true = refl
    ends false = refl
places_ascend-push (r ∷ s ∷ ps) p =
    ap (λ (t : Bool). nat_lt r.0 s.0 && t) (places_ascend-push (s ∷ ps) p)
    ∙ and_assoc (nat_lt r.0 s.0) (places_ascend (s ∷ ps)) (is_thread_after (slice_get (s ∷ ps) (length (s ∷ ps) - 1)) p.0)
    ∙ ap (λ (o : Option (ℕ × ℕ)). places_ascend (r ∷ s ∷ ps) && is_thread_after o p.0) (sym (last_of r s ps))

-- ---- the first members ascend too

pub ascend_front : (qs rs : List Atom) → ascend (qs ++ rs) ≡ true → ascend qs ≡ true
ascend_front [] rs up = refl
ascend_front (q ∷ []) rs up = refl
ascend_front (q ∷ r ∷ qs) rs up = (let p = and_parts _ _ up in and_from _ _ p.0 (ascend_front (r ∷ qs) rs p.1))

pub places_front : (ps rs : List (ℕ × ℕ)) → places_ascend (ps ++ rs) ≡ true → places_ascend ps ≡ true
places_front [] rs up = refl
places_front (p ∷ []) rs up = refl
places_front (p ∷ r ∷ ps) rs up = (let q = and_parts _ _ up in and_from _ _ q.0 (places_front (r ∷ ps) rs q.1))

-- ---- sorted lists

less_from : (o : Ordering) → is_lt o ≡ true → o ≡ Less
less_from Less e = refl
less_from Equal e = absurd cc
less_from Greater e = absurd cc

atom_total : IsTotalOrder atom_cmp
atom_total = then_total (on_total (λ (q : Atom). q.predicate) nat_cmp_total) (on_total (λ (q : Atom). q.threads) nat_list_cmp_total)

ascends_at : (qs : List Atom) (k : ℕ) (d : Atom) → ascend qs ≡ true → k + 1 < length qs → atom_cmp (get_or qs k d) (get_or qs (k + 1) d) ≡ Less
ascends_at [] k d up h = absurd (omega (arith, h))
ascends_at (q ∷ []) k d up h = absurd (omega (arith, h))
ascends_at (q ∷ r ∷ qs) zero d up h = less_from (atom_cmp q r) (and_parts _ _ up).0
ascends_at (q ∷ r ∷ qs) (suc k) d up h =
    let rest : atom_cmp (get_or (r ∷ qs) k d) (get_or (r ∷ qs) (k + 1) d) ≡ Less = ascends_at (r ∷ qs) k d (and_parts _ _ up).1 (omega (arith, h)) in
    let same : suc k + 1 ≡ suc (k + 1) = omega arith in
    rw same rest

pub ascend_sorted : (qs : List Atom) → ascend qs ≡ true → IsStrictlySortedBy atom_cmp qs
ascend_sorted qs up =
    let d : Atom = record { predicate = 0; threads = [] } in
    sorted_from_all_adjacent atom_total qs d (λ k h. ascends_at qs k d up h)

before_first : (q : Atom) (qs : List Atom) → AllByRecursion (λ (r : Atom). atom_cmp q r ≡ Less) qs → atom_is_before_all q qs ≡ true
before_first q [] h = refl
before_first q (r ∷ qs) h = ap is_lt h.0

pub sorted_ascend : (qs : List Atom) → IsStrictlySortedBy atom_cmp qs → ascend qs ≡ true
sorted_ascend [] up = refl
sorted_ascend (q ∷ qs) up = and_from _ _ (before_first q qs (sorted_head atom_cmp q qs up)) (sorted_ascend qs (sorted_tail atom_cmp q qs up))

pub places_increase : (ps : List (ℕ × ℕ)) → places_ascend ps ≡ true → IsStrictlyIncreasing (map (λ (p : ℕ × ℕ). p.0) ps)
places_increase [] up k h = absurd (omega (arith, h))
places_increase (p ∷ []) up k h = absurd (omega (arith, h))
places_increase (p ∷ r ∷ ps) up zero h = ltb-true _ _ (and_parts _ _ up).0
places_increase (p ∷ r ∷ ps) up (suc k) h =
    let ts : List ℕ = map (λ (q : ℕ × ℕ). q.0) (r ∷ ps) in
    let rest : slice_index ts k < slice_index ts (k + 1) = places_increase (r ∷ ps) (and_parts _ _ up).1 k (omega (arith, h)) in
    let same : suc k + 1 ≡ suc (k + 1) = omega arith in
    rw same rest

increasing_tail : (n : ℕ) (ns : List ℕ) → IsStrictlyIncreasing (n ∷ ns) → IsStrictlyIncreasing ns
increasing_tail n ns up k h =
    let all : slice_index (n ∷ ns) (suc k) < slice_index (n ∷ ns) (suc k + 1) = up (suc k) (omega (arith, h)) in
    let same : suc k + 1 ≡ suc (k + 1) = omega arith in
    subst (λ (j : ℕ). slice_index ns k < slice_index (n ∷ ns) j) same all

pub increasing_places : (ps : List (ℕ × ℕ)) → IsStrictlyIncreasing (map (λ (p : ℕ × ℕ). p.0) ps) → places_ascend ps ≡ true
increasing_places [] up = refl
increasing_places (p ∷ []) up = refl
increasing_places (p ∷ r ∷ ps) up =
    and_from _ _ (lt-ltb _ _ (up zero (omega arith))) (increasing_places (r ∷ ps) (increasing_tail p.0 (map (λ (q : ℕ × ℕ). q.0) (r ∷ ps)) up))
