-- The listed sets of places as sets of atoms.
use Rattle.std.proofs.Common.{◌≡◌, ◌<◌, ◌≤◌, ◌+◌, ℕ, List, [], ◌∷◌, ◌++◌, length, take, get_or, map, sym, ap, ◌∙◌, subst, Contains, All as Each, arith}
use Rattle.std.specs.Cmp.Lexicographic.{slice_cmp}
use Rattle.std.specs.List.{AllByRecursion}
use Rattle.std.specs.List.Sorted.{IsStrictlySortedBy}
use Rattle.std.specs.Ordering.{nat_cmp}
use Rattle.std.specs.declared.cmp.Ordering.TheVariants.{Less}
use Rattle.std.specs.declared.vec.Vec.{Vec}
use Rattle.std.proofs.lemmas.List.{length-map, map_more, get_or_default}
use Rattle.std.proofs.lemmas.List.Elements.{All-contains}
use Rattle.std.proofs.lemmas.Map.Keys.{sorted_from_strictly_increasing}
use Rattle.ps_atom.specs.Atoms.{atom_cmp}
use Rattle.ps_atom.specs.declared.atom.Atom.{Atom}
use Rattle.ps_hit.specs.Answer.{HasMore}
use Rattle.ps_hit.specs.Hitting.{IsListedHit}
use Rattle.ps_list.proofs.Members.{here, there}
use Rattle.ps_list.proofs.Mapped.{mapped, from_mapped}
use Rattle.ps_demand.specs.Hitting.{IsLeastHit}
use Rattle.ps_demand.specs.Numbered.{at_place, named, IsNumbered}
use Rattle.ps_step.proofs.Numbered.{hit_within, listed_least, least_listed, named_cmp, named_ascend}
use Rattle.ps_step.specs.inner.Found.{AreLeast, AreAllLeast}
use Rattle.ps_demand.specs.Pools.{AreOfPool, lists_of}

pub listed_within : (pool : List Atom) (demands : List (List Atom)) (sets hits : List (List ℕ)) → IsNumbered pool demands sets → Each (IsListedHit sets) hits → (hit : List ℕ) → Contains hits hit → AreOfPool pool hit
listed_within pool demands sets hits is all hit c = hit_within pool demands sets hit is (All-contains (IsListedHit sets) hits hit all c).is_minimal

each_named : (pool : List Atom) → IsStrictlySortedBy atom_cmp pool → (h : List ℕ) (hs : List (List ℕ)) → AreOfPool pool h → ((k : List ℕ) → Contains hs k → AreOfPool pool k) → AllByRecursion (λ y. slice_cmp nat_cmp h y ≡ Less) hs
    → AllByRecursion (λ y. slice_cmp atom_cmp (named pool h) y ≡ Less) (map (named pool) hs)
each_named pool up h [] w ws a = tt
each_named pool up h (k ∷ hs) w ws a = (named_cmp pool up h k w (ws k (here k hs)) ∙ a.0, each_named pool up h hs w (λ m c. ws m (there k hs m c)) a.1)

named_ordered : (pool : List Atom) → IsStrictlySortedBy atom_cmp pool → (hits : List (List ℕ)) → ((k : List ℕ) → Contains hits k → AreOfPool pool k) → IsStrictlySortedBy (slice_cmp nat_cmp) hits → IsStrictlySortedBy (slice_cmp atom_cmp) (map (named pool) hits)
unfolding IsStrictlySortedBy
named_ordered pool up [] ws a = tt
named_ordered pool up (h ∷ hs) ws a = (each_named pool up h hs (ws h (here h hs)) (λ k c. ws k (there h hs k c)) a.0, named_ordered pool up hs (λ k c. ws k (there h hs k c)) a.1)

pub are_least : (pool : List Atom) (demands : List (List Atom)) (sets hits : List (List ℕ)) → IsNumbered pool demands sets → Each (IsListedHit sets) hits → IsStrictlySortedBy (slice_cmp nat_cmp) hits → AreLeast demands (map (named pool) hits)
are_least pool demands sets hits is all up = record {
  least = λ atoms c. (let w = from_mapped (named pool) hits atoms c in subst (λ (xs : List Atom). IsLeastHit demands xs) w.2 (listed_least pool demands sets w.0 is (All-contains (IsListedHit sets) hits w.0 all w.1)));
  ascend = λ atoms c. (let w = from_mapped (named pool) hits atoms c in
      let listed = All-contains (IsListedHit sets) hits w.0 all w.1 in
      subst (λ (xs : List Atom). IsStrictlySortedBy atom_cmp xs) w.2 (named_ascend pool is.ascends w.0 (listed_within pool demands sets hits is all w.0 w.1) (sorted_from_strictly_increasing w.0 listed.ascends)));
  ordered = named_ordered pool is.ascends hits (listed_within pool demands sets hits is all) up;
}

pub are_all : (pool : List Atom) (demands : List (List Atom)) (sets hits : List (List ℕ)) → IsNumbered pool demands sets → ((hit : List ℕ) → IsListedHit sets hit → Contains hits hit) → AreAllLeast demands (map (named pool) hits)
are_all pool demands sets hits is every atoms least =
    let w = least_listed pool demands sets atoms is least in
    (named pool w.0, mapped (named pool) hits w.0 (every w.0 w.1), w.3, w.2)

pub are_more : (pool : List Atom) (demands : List (List Atom)) (sets : List (List ℕ)) (most : ℕ) → IsNumbered pool demands sets → HasMore sets most → (list : List (List Atom)) × AreLeast demands list × (most < length list)
are_more pool demands sets most is m =
    let long : length (map (named pool) m.hits) ≡ length m.hits = length-map m.hits (named pool) in
    (map (named pool) m.hits, are_least pool demands sets m.hits is m.are_minimal m.ordered, rw long m.more)

pub named_more : (pool : List Atom) (places : List ℕ) (i : ℕ) (x copy : Atom) (atoms later : List Atom) → i < length places → get_or places i 0 < length pool → x ≡ get_or pool (get_or places i 0) x → copy ≡ x
    → later ≡ atoms ++ copy ∷ [] → atoms ≡ named pool (take i places) → later ≡ named pool (take (i + 1) places)
named_more pool places i x copy atoms later inside within is same added e =
    let at : copy ≡ at_place pool (get_or places i 0) = same ∙ (is ∙ get_or_default pool (get_or places i 0) x (record { predicate = 0; threads = [] }) within) in
    added ∙ (ap (λ (xs : List Atom). xs ++ copy ∷ []) e ∙ (ap (λ (q : Atom). named pool (take i places) ++ q ∷ []) at ∙ sym (map_more (at_place pool) places i 0 inside)))

pub moved_numbers : {A B : Type 0} (p p' : List Atom) (s s' : List (Vec Atom A)) (n n' : List (Vec ℕ B)) (d : List (List Atom)) → p ≡ p' → s ≡ s' → lists_of s' ≡ d → n' ≡ n
    → IsNumbered p (lists_of s) (lists_of n) → IsNumbered p' d (lists_of n')
moved_numbers {A} {B} p p' s s' n n' d ep es ed en is =
    subst (λ (x : List (Vec ℕ B)). IsNumbered p' d (lists_of x)) (sym en)
    (subst (λ (x : List (List Atom)). IsNumbered p' x (lists_of n)) ed
    (subst (λ (x : List (Vec Atom A)). IsNumbered p' (lists_of x) (lists_of n)) es
    (subst (λ (x : List Atom). IsNumbered x (lists_of s) (lists_of n)) ep is)))

pub found_all : {A : Type 0} (pool pool' : List Atom) (demands : List (List Atom)) (sets hits hits' : List (List ℕ)) (list : List (Vec Atom A)) (most : ℕ) → IsNumbered pool demands sets → Each (IsListedHit sets) hits
    → ((hit : List ℕ) → IsListedHit sets hit → Contains hits hit) → IsStrictlySortedBy (slice_cmp nat_cmp) hits → length hits ≤ most → pool' ≡ pool → hits' ≡ hits → lists_of list ≡ map (named pool') hits'
    → AreLeast demands (lists_of list) × AreAllLeast demands (lists_of list) × (length (lists_of list) ≤ most)
found_all pool pool' demands sets hits hits' list most is all every up few ep eh e =
    let same : lists_of list ≡ map (named pool) hits = e ∙ (ap (λ (p : List Atom). map (named p) hits') ep ∙ ap (map (named pool)) eh) in
    let long : length (lists_of list) ≡ length hits = ap length same ∙ length-map hits (named pool) in (
      subst (λ (xs : List (List Atom)). AreLeast demands xs) (sym same) (are_least pool demands sets hits is all up),
      subst (λ (xs : List (List Atom)). AreAllLeast demands xs) (sym same) (are_all pool demands sets hits is every),
      omega (arith, long, few),
    )
