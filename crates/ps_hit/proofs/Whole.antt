-- The whole search: what it keeps, and why it ends.
use Rattle.std.proofs.Common.{◌≡◌, ◌≢◌, ℕ, zero, suc, ◌+◌, ◌-◌, ◌*◌, ◌<◌, ◌≤◌, List, [], ◌∷◌, ◌++◌, length, get_or, sym, subst, refl, inl, inr, ◌⊎◌, Contains, All, arith}
use Rattle.std.specs.Prelude.{◌↔◌}
use Rattle.std.specs.List.Sorted.{IsStrictlyIncreasing}
use Rattle.std.proofs.Math.Nat.{mul-le-mul_left}
use Rattle.std.proofs.lemmas.List.Elements.{All-nil, All-cons, All-contains, Contains-get_or, Contains-push, Contains-push_cases, Contains-append_left}
use Rattle.ps_hit.specs.declared.cover.Cover.{Cover}
use Rattle.ps_hit.specs.declared.cover.Cover.TheVariants.{Unmet, Once, Again}
use Rattle.ps_hit.specs.declared.node.Node.{Node}
use Rattle.ps_hit.specs.Hitting.{Meets, IsSubset, IsHit, IsListedHit}
use Rattle.ps_hit.specs.Answer.{IsLexicographic}
use Rattle.ps_hit.specs.inner.Covers.{unmet}
use Rattle.ps_hit.specs.inner.Searching.{IsNode, IsUnderNode, Branches, work, works}
use Rattle.ps_list.proofs.Members.{nothing, here}
use Rattle.ps_hit.proofs.Critical.{leaf_minimal, leaf_all}
use Rattle.ps_hit.proofs.Ascending.{put, put_keeps, put_new, put_cases}
use Rattle.ps_list.proofs.Numbers.{same_ascending}
use Rattle.ps_hit.proofs.Nodes.{works-append, work_some}

-- what was found is minimal, and each minimal hitting set was found or is below a node that waits
pub record Searching (sets found : List (List ℕ)) (waiting : List Node) : Type 0 where
  pub nodes : All (IsNode sets) waiting
  pub minimal : All (IsListedHit sets) found
  pub every : (hit : List ℕ) → IsListedHit sets hit → Contains found hit ⊎ ((node : Node) × Contains waiting node × IsUnderNode node hit)
  pub ordered : IsLexicographic found

pub searching_first : (sets : List (List ℕ)) (node : Node) (found : List (List ℕ)) (waiting : List Node) → found ≡ [] → IsLexicographic found → waiting ≡ [] ++ node ∷ [] → IsNode sets node
    → ((hit : List ℕ) → IsHit sets hit → IsUnderNode node hit) → Searching sets found waiting
searching_first sets node found waiting none up one is above = record {
  nodes = rw one (All-cons (IsNode sets) node [] is (All-nil (IsNode sets)));
  minimal = rw none (All-nil (IsListedHit sets));
  every = λ hit listed. inr (node, rw one (here node []), above hit listed.is_minimal.hits);
  ordered = up;
}

rest_nodes : (sets : List (List ℕ)) (waiting rest : List Node) (node : Node) → waiting ≡ rest ++ node ∷ [] → All (IsNode sets) waiting → All (IsNode sets) rest
rest_nodes sets waiting rest node popped are k d inside =
    All-contains (IsNode sets) waiting (get_or rest k d) are (rw popped (Contains-append_left rest (node ∷ []) (get_or rest k d) (Contains-get_or rest k d inside)))

pub last_node : (sets found : List (List ℕ)) (waiting rest : List Node) (node : Node) → waiting ≡ rest ++ node ∷ [] → Searching sets found waiting → IsNode sets node
last_node sets found waiting rest node popped s = All-contains (IsNode sets) waiting node s.nodes (rw popped (Contains-push rest node))

-- a node went, and its children wait
pub searching_branch : (sets found : List (List ℕ)) (waiting rest after : List Node) (node : Node) (place : ℕ) → Searching sets found waiting → waiting ≡ rest ++ node ∷ []
    → place < length sets → Branches sets node (get_or sets place []) rest after → Searching sets found after
searching_branch sets found waiting rest after node place s popped within b = record {
  nodes = b.nodes (rest_nodes sets waiting rest node popped s.nodes);
  minimal = s.minimal;
  every = λ hit listed. elim (s.every hit listed) [
    | inl known ↦ inl known
    | inr some ↦ elim (Contains-push_cases rest node some.0 (subst (λ (nodes : List Node). Contains nodes some.0) popped some.1)) [
      | inl later ↦ inr (some.0, b.stays some.0 later, some.2)
      | inr is ↦ inr (b.reached hit listed.is_minimal (subst (λ (n : Node). IsUnderNode n hit) (sym is) some.2)
          (All-contains (Meets hit) sets (get_or sets place []) listed.is_minimal.hits (Contains-get_or sets place [] within)))
    ]
  ];
  ordered = s.ordered;
}

-- a node went at which each set is met, and its numbers were found
pub searching_leaf : (sets found found' : List (List ℕ)) (waiting rest : List Node) (node : Node) (list : List ℕ) → Searching sets found waiting → waiting ≡ rest ++ node ∷ []
    → All (λ (c : Cover). c ≢ Unmet) node.covers.items → IsStrictlyIncreasing list → ((n : ℕ) → Contains list n ↔ Contains node.chosen.items n)
    → found' ≡ put found list → IsLexicographic found' → Searching sets found' rest
searching_leaf sets found found' waiting rest node list s popped met up same added ordered =
    let is : IsNode sets node = last_node sets found waiting rest node popped s in
    let minimal : IsListedHit sets list = record { is_minimal = leaf_minimal sets node.chosen.items list node.covers.items is.covers is.own met (λ n h. (same n).1 h) (λ n h. (same n).0 h); ascends = up } in
    record {
      nodes = rest_nodes sets waiting rest node popped s.nodes;
      minimal = rw added (λ k d inside. elim (put_cases found list _ (Contains-get_or (put found list) k d inside)) [
        | inl old ↦ All-contains (IsListedHit sets) found _ s.minimal old
        | inr is_new ↦ subst (λ (l : List ℕ). IsListedHit sets l) is_new minimal
      ]);
      every = λ hit listed. elim (s.every hit listed) [
        | inl known ↦ inl (rw added (put_keeps found list hit known))
        | inr some ↦ elim (Contains-push_cases rest node some.0 (subst (λ (nodes : List Node). Contains nodes some.0) popped some.1)) [
          | inl later ↦ inr (some.0, later, some.2)
          | inr is_this ↦
              let below : IsUnderNode node hit = subst (λ (n : Node). IsUnderNode n hit) (sym is_this) some.2 in
              let all : IsSubset hit node.chosen.items = leaf_all sets node.chosen.items hit node.covers.items is.covers met listed.is_minimal below.chosen in
              let equal : list ≡ hit = same_ascending list hit up listed.ascends (λ n h. below.chosen n ((same n).0 h)) (λ n h. (same n).1 (all n h)) in
              inl (rw added (subst (λ (l : List ℕ). Contains (put found list) l) equal (put_new found list)))
        ]
      ];
      ordered = ordered;
    }

-- where nothing waits, each was found
pub searched_every : (sets found : List (List ℕ)) → Searching sets found [] → (hit : List ℕ) → IsListedHit sets hit → Contains found hit
searched_every sets found s hit listed = elim (s.every hit listed) [
  | inl known ↦ known
  | inr some ↦ absurd (nothing some.0 some.1)
]

-- ---- the end of the search

-- how many numbers the sets have
abbrev pub sizes : List (List ℕ) → ℕ
sizes [] = 0
sizes (set ∷ sets) = length set + sizes sets

size_at : (sets : List (List ℕ)) (place : ℕ) → place < length sets → length (get_or sets place []) ≤ sizes sets
size_at [] place within = absurd (omega arith)
size_at (set ∷ sets) zero within = omega arith
size_at (set ∷ sets) (suc place) within = let later : length (get_or sets place []) ≤ sizes sets = size_at sets place (omega arith) in omega arith

unmet_some : (cs : List Cover) (place : ℕ) (d : Cover) → place < length cs → get_or cs place d ≡ Unmet → 1 ≤ unmet cs
unmet_some [] place d within is = absurd (omega arith)
unmet_some (Unmet ∷ cs) place d within is = omega arith
unmet_some (Once n ∷ cs) zero d within is = absurd (cc)
unmet_some (Again ∷ cs) zero d within is = absurd (cc)
unmet_some (Once n ∷ cs) (suc place) d within is = unmet_some cs place d (omega arith) is
unmet_some (Again ∷ cs) (suc place) d within is = unmet_some cs place d (omega arith) is

one_less : (most size l u rest after : ℕ) → most ≡ 1 + size → l ≤ size → 1 ≤ u → after ≤ rest + l * work most (u - 1) → after < rest + work most u
one_less most size l zero rest after is fits some h = absurd (omega arith)
one_less most size l (suc u) rest after is fits some h =
    let small : work most u * l ≤ work most u * size = mul-le-mul_left (work most u) fits in
    let positive : 1 ≤ work most u = work_some most u (omega (arith, is)) in
    let same : suc u - 1 ≡ u = omega arith in
    let work_left = rw same at h in
    let product : most * work most u ≡ work most u + size * work most u = rw is (omega arith) in
    rw product (omega (arith, work_left, small, positive))

pub branch_less : (sets : List (List ℕ)) (waiting rest after : List Node) (node : Node) (place : ℕ) (d : Cover) → waiting ≡ rest ++ node ∷ [] → place < length sets → place < length node.covers.items
    → get_or node.covers.items place d ≡ Unmet → Branches sets node (get_or sets place []) rest after → works (1 + sizes sets) after < works (1 + sizes sets) waiting
branch_less sets waiting rest after node place d popped within within' is b =
    rw (popped, works-append) (one_less (1 + sizes sets) (sizes sets) (length (get_or sets place [])) (unmet node.covers.items) (works (1 + sizes sets) rest) (works (1 + sizes sets) after)
    refl (size_at sets place within) (unmet_some node.covers.items place d within' is) (b.work_falls (1 + sizes sets) (omega arith)))

pub leaf_less : (sets : List (List ℕ)) (waiting rest : List Node) (node : Node) → waiting ≡ rest ++ node ∷ [] → works (1 + sizes sets) rest < works (1 + sizes sets) waiting
leaf_less sets waiting rest node popped =
    let some : 1 ≤ work (1 + sizes sets) (unmet node.covers.items) = work_some (1 + sizes sets) (unmet node.covers.items) (omega arith) in
    rw (popped, works-append) (omega arith)
