-- What a set holds that was made of the nodes of some links.
use Rattle.std.proofs.Common.{◌≡◌, ℕ, Bool, true, false, List, [], ◌∷◌, map, cond, ap, ◌∙◌, subst, inl, inr, ◌⊎◌, Contains, refl}
use Rattle.std.specs.Prelude.{filter, ◌↔◌, IsTrue}
use Rattle.std.specs.BTreeSet.{BTreeSet, IsFromIterResult, contains}
use Rattle.std.specs.Ordering.{nat_cmp}
use Rattle.std.specs.Cmp.{nat_cmp_total}
use Rattle.std.proofs.lemmas.Map.Lookups.{exact_unsigned}
use Rattle.std.proofs.lemmas.Map.Views.{btree_set_contains_iff, btree_set_contains_from_list}
use Rattle.std.proofs.lemmas.Bool.{both_ways}
use Rattle.ps_list.proofs.Members.{nothing, cons_cases, here, there}
use Rattle.ps_drop.specs.declared.pair.Pair.{Pair}
use Rattle.ps_drop.specs.Pairs.{Leans}

-- the node is that of a link that passes
pub record IsPassing (p : Pair → Bool) (links : List Pair) (n : ℕ) : Type 0 where
  pub link : Pair
  pub listed : Contains links link
  pub passes : p link ≡ true
  pub is : link.node ≡ n

abbrev nodes_of : List Pair → List ℕ
nodes_of links = map (λ (link : Pair). link.node) links

passing_later : (p : Pair → Bool) (l : Pair) (ls : List Pair) (n : ℕ) → IsPassing p ls n → IsPassing p (l ∷ ls) n
passing_later p l ls n h = record { link = h.link; listed = there l ls h.link h.listed; passes = h.passes; is = h.is }

passing_first : (p : Pair → Bool) (l : Pair) (ls : List Pair) (n : ℕ) (t : Bool) → p l ≡ t → (Contains (nodes_of (filter p ls)) n → IsPassing p ls n)
    → Contains (nodes_of (cond t (l ∷ filter p ls) (filter p ls))) n → IsPassing p (l ∷ ls) n
passing_first p l ls n true e later h = elim (cons_cases l.node (nodes_of (filter p ls)) n h) [
  | inl is ↦ record { link = l; listed = here l ls; passes = e; is = is }
  | inr rest ↦ passing_later p l ls n (later rest)
]
passing_first p l ls n false e later h = passing_later p l ls n (later h)

passing_from : (p : Pair → Bool) (links : List Pair) (n : ℕ) → Contains (nodes_of (filter p links)) n → IsPassing p links n
passing_from p [] n h = absurd (nothing n h)
passing_from p (l ∷ ls) n h = passing_first p l ls n (p l) refl (passing_from p ls n) h

kept_first : (p : Pair → Bool) (l : Pair) (ls : List Pair) (link : Pair) (t : Bool) → p l ≡ t → p link ≡ true
    → (l ≡ link) ⊎ Contains (nodes_of (filter p ls)) link.node → Contains (nodes_of (cond t (l ∷ filter p ls) (filter p ls))) link.node
kept_first p l ls link true e passes (inl is) = subst (λ (q : Pair). Contains (nodes_of (l ∷ filter p ls)) q.node) is (here l.node (nodes_of (filter p ls)))
kept_first p l ls link true e passes (inr later) = there l.node (nodes_of (filter p ls)) link.node later
kept_first p l ls link false e passes (inl is) = absurd (both_ways (p l) e (ap p is ∙ passes))
kept_first p l ls link false e passes (inr later) = later

kept : (p : Pair → Bool) (links : List Pair) (link : Pair) → Contains links link → p link ≡ true → Contains (nodes_of (filter p links)) link.node
kept p [] link h passes = absurd (nothing link h)
kept p (l ∷ ls) link h passes = kept_first p l ls link (p l) refl passes (elim (cons_cases l ls link h) [ inl is ↦ inl is | inr later ↦ inr (kept p ls link later passes) ])

-- a node of the links that pass leans on a dropped one
leans : (gone : BTreeSet ℕ) (links : List Pair) (dropped : List ℕ) (n : ℕ) → ((other : ℕ) → IsTrue (contains nat_cmp gone other) ↔ Contains dropped other)
    → IsPassing (λ (link : Pair). contains nat_cmp gone link.other) links n → Leans links dropped n
leans gone links dropped n is_gone h =
    (h.link.other, (is_gone h.link.other).0 h.passes, subst (λ (m : ℕ). Contains links (record { node = m; other = h.link.other })) h.is h.listed)

-- the nodes of the links to a set that was made of the dropped are those that lean on a dropped one
pub leaning_iff : (links : List Pair) (dropped : List ℕ) (gone nodes : BTreeSet ℕ) → IsFromIterResult nat_cmp dropped gone
    → IsFromIterResult nat_cmp (map (λ (link : Pair). link.node) (filter (λ (link : Pair). contains nat_cmp gone link.other) links)) nodes
    → (n : ℕ) → Contains nodes.keys n ↔ Leans links dropped n
leaning_iff links dropped gone nodes made leaned n =
    let p : Pair → Bool = λ (link : Pair). contains nat_cmp gone link.other in
    let key = btree_set_contains_iff nat_cmp_total exact_unsigned nodes n in
    let listed = btree_set_contains_from_list nat_cmp_total exact_unsigned (nodes_of (filter p links)) nodes leaned n in
    let is_gone : (other : ℕ) → IsTrue (contains nat_cmp gone other) ↔ Contains dropped other = btree_set_contains_from_list nat_cmp_total exact_unsigned dropped gone made in (
      λ h. leans gone links dropped n is_gone (passing_from p links n (listed.0 (key.1 h))),
      λ h. key.0 (listed.1 (kept p links (record { node = n; other = h.0 }) h.2 ((is_gone h.0).1 h.1))),
    )
