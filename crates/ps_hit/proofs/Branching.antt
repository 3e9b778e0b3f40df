-- The loop over the numbers of an unmet set.
use Rattle.std.proofs.Common.{◌≡◌, ℕ, ◌+◌, ◌-◌, ◌*◌, ◌<◌, ◌≤◌, List, [], ◌∷◌, ◌++◌, length, get_or, take, sym, subst, inl, inr, ◌⊎◌, Contains, All, arith}
use Rattle.std.proofs.lemmas.List.{take_more, take_all}
use Rattle.std.proofs.lemmas.List.Elements.{All-push, Contains-push, Contains-push_cases, Contains-append_left, Contains-get_or}
use Rattle.ps_hit.specs.declared.cover.Cover.TheVariants.{Unmet}
use Rattle.ps_hit.specs.declared.node.Node.{Node}
use Rattle.ps_hit.specs.Hitting.{Meets, IsMinimalHit}
use Rattle.ps_hit.specs.inner.Covers.{unmet}
use Rattle.ps_hit.specs.inner.Searching.{IsNode, IsUnderNode, AddsChild, Branches, work, works}
use Rattle.ps_list.proofs.Members.{nothing}
use Rattle.ps_list.proofs.Numbers.{is_in}
use Rattle.ps_hit.proofs.CoverSteps.{unmet_falls}
use Rattle.ps_hit.proofs.Nodes.{child_node, below_child, no_child, not_chosen, zip_length, work_more, works-append}

-- the first numbers of the set are passed, and a minimal hitting set below the node is below a child, or has none of those passed
pub record Branching (sets : List (List ℕ)) (node : Node) (set : List ℕ) (i : ℕ) (before : List Node) (barred : List ℕ) (after : List Node) : Type 0 where
  pub nodes : All (IsNode sets) before → All (IsNode sets) after
  pub stays : (other : Node) → Contains before other → Contains after other
  pub reached : (hit : List ℕ) → IsMinimalHit sets hit → IsUnderNode node hit → ((child : Node) × Contains after child × IsUnderNode child hit) ⊎ (¬ Meets barred hit)
  pub passed : (n : ℕ) → Contains (take i set) n → Contains barred n
  pub work_falls : (most : ℕ) → 1 ≤ most → works most after ≤ works most before + i * work most (unmet node.covers.items - 1)

-- the set stands at a place where the cover is unmet
pub record IsUnmet (sets : List (List ℕ)) (node : Node) (place : ℕ) (set : List ℕ) : Type 0 where
  pub within : place < length sets
  pub is : get_or sets place [] ≡ set
  pub unmet : get_or node.covers.items place Unmet ≡ Unmet

pub branching_none : (sets : List (List ℕ)) (node : Node) (set : List ℕ) (before : List Node) (barred : List ℕ) → barred ≡ node.barred.items → Branching sets node set 0 before barred before
branching_none sets node set before barred same = record {
  nodes = λ are. are;
  stays = λ other h. h;
  reached = λ hit minimal below. inr (rw same below.barred);
  passed = λ n h. absurd (nothing n h);
  work_falls = λ most some. omega arith;
}

passed_more : (set : List ℕ) (i : ℕ) (d : ℕ) (barred : List ℕ) → i < length set → ((n : ℕ) → Contains (take i set) n → Contains barred n) → Contains barred (get_or set i d)
    → (n : ℕ) → Contains (take (i + 1) set) n → Contains barred n
passed_more set i d barred inside passed has n h =
    elim (Contains-push_cases (take i set) (get_or set i d) n (subst (λ (xs : List ℕ). Contains xs n) (take_more set i d inside) h)) [
      | inl old ↦ passed n old
      | inr is ↦ subst (λ (m : ℕ). Contains barred m) is has
    ]

-- the number was passed before
pub branching_skip : (sets : List (List ℕ)) (node : Node) (set : List ℕ) (i d : ℕ) (before : List Node) (barred : List ℕ) (after : List Node)
    → Branching sets node set i before barred after → i < length set → Contains barred (get_or set i d) → Branching sets node set (i + 1) before barred after
branching_skip sets node set i d before barred after b inside has = record {
  nodes = b.nodes;
  stays = b.stays;
  reached = b.reached;
  passed = passed_more set i d barred inside b.passed has;
  work_falls = λ most some. omega (arith, b.work_falls most some);
}

-- a set that has none of the barred, nor the number, has none of the two together
misses_more : (barred hit : List ℕ) (number : ℕ) → (¬ Meets barred hit) → (¬ Contains hit number) → ¬ Meets (barred ++ number ∷ []) hit
misses_more barred hit number misses lacks = λ m. elim (Contains-push_cases barred number m.0 m.1) [
  | inl old ↦ misses (m.0, old, m.2)
  | inr is ↦ lacks (subst (λ (n : ℕ). Contains hit n) (sym is) m.2)
]

kept : (after later : List Node) (child : Node) → later ≡ after ++ child ∷ [] → (other : Node) → Contains after other → Contains later other
kept after later child added other h = rw added (Contains-append_left after (child ∷ []) other h)

last : (after later : List Node) (child : Node) → later ≡ after ++ child ∷ [] → Contains later child
last after later child added = rw added (Contains-push after child)

-- the number has no child, or one that waits now
pub branching_add : (sets : List (List ℕ)) (node : Node) (place : ℕ) (set : List ℕ) (i d : ℕ) (before : List Node) (barred barred' : List ℕ) (after later : List Node)
    → IsNode sets node → IsUnmet sets node place set → Branching sets node set i before barred after → i < length set
    → AddsChild sets node (get_or set i d) barred after later → barred' ≡ barred ++ get_or set i d ∷ [] → Branching sets node set (i + 1) before barred' later
branching_add sets node place set i d before barred barred' after later is at b inside (inl none) more =
    let number = get_or set i d in
    let has : Contains (get_or sets place []) number = rw at.is (Contains-get_or set i d inside) in
    let new : ¬ Contains node.chosen.items number = not_chosen sets node is place Unmet at.within at.unmet number has in
    record {
      nodes = λ are. rw none.0 (b.nodes are);
      stays = λ other h. rw none.0 (b.stays other h);
      reached = λ hit minimal below. elim (b.reached hit minimal below) [
        | inl there ↦ inl (there.0, rw none.0 there.1, there.2)
        | inr misses ↦ elim (is_in hit number) [
          | inl in_hit ↦ absurd (no_child sets node number hit is new none.1 minimal below in_hit)
          | inr lacks ↦ inr (rw more (misses_more barred hit number misses lacks))
        ]
      ];
      passed = passed_more set i d barred' inside (λ n h. rw more (Contains-append_left barred (number ∷ []) n (b.passed n h))) (rw more (Contains-push barred number));
      work_falls = λ most some. rw none.0 (omega (arith, b.work_falls most some));
    }
branching_add sets node place set i d before barred barred' after later is at b inside (inr one) more =
    let number = get_or set i d in
    let child : Node = one.0 in
    let has : Contains (get_or sets place []) number = rw at.is (Contains-get_or set i d inside) in
    let new : ¬ Contains node.chosen.items number = not_chosen sets node is place Unmet at.within at.unmet number has in
    let fewer : unmet child.covers.items + 1 ≤ unmet node.covers.items = rw one.2.covers (unmet_falls number sets node.covers.items place Unmet at.within (zip_length node.chosen.items sets node.covers.items is.covers) at.unmet has) in
    record {
      nodes = λ are. rw one.1 (All-push (IsNode sets) after child (b.nodes are) (child_node sets node number barred child is new one.2));
      stays = λ other h. kept after later child one.1 other (b.stays other h);
      reached = λ hit minimal below. elim (b.reached hit minimal below) [
        | inl there ↦ inl (there.0, kept after later child one.1 there.0 there.1, there.2)
        | inr misses ↦ elim (is_in hit number) [
          | inl in_hit ↦ inl (child, last after later child one.1, below_child sets node number barred child hit below misses in_hit one.2)
          | inr lacks ↦ inr (rw more (misses_more barred hit number misses lacks))
        ]
      ];
      passed = passed_more set i d barred' inside (λ n h. rw more (Contains-append_left barred (number ∷ []) n (b.passed n h))) (rw more (Contains-push barred number));
      work_falls = λ most some.
          let less = work_more most (unmet child.covers.items) (unmet node.covers.items - 1) some (omega arith) in
          rw (one.1, works-append) (omega (arith, b.work_falls most some, less));
    }

-- all numbers of the set are passed
pub branching_all : (sets : List (List ℕ)) (node : Node) (set : List ℕ) (i : ℕ) (before : List Node) (barred : List ℕ) (after : List Node)
    → Branching sets node set i before barred after → length set ≤ i → i ≤ length set → Branches sets node set before after
branching_all sets node set i before barred after b past upto =
    let all : take i set ≡ set = take_all i set past in
    let is : i ≡ length set = omega arith in
    record {
      nodes = b.nodes;
      stays = b.stays;
      reached = λ hit minimal below m. elim (b.reached hit minimal below) [
        | inl there ↦ there
        | inr misses ↦ absurd (misses (m.0, b.passed m.0 (rw all m.2), m.1))
      ];
      work_falls = λ most some. rw (← is) (b.work_falls most some);
    }
