use Rattle.std.proofs.Common.{◌≡◌, ◌<◌, ◌∙◌, ◌++◌, ◌∷◌, [], ◌-◌, ℕ, List, ap, subst, refl, take, length, arith, rules}
use Rattle.ps_hit.specs.declared.cover.Cover.TheVariants.{Unmet}
use Rattle.ps_hit.specs.declared.node.Node.{Node}
use Rattle.ps_hit.specs.Hitting.{numbers_of}
use Rattle.ps_hit.specs.inner.Searching.{IsNode}
use Rattle.ps_hit.proofs.Ascending.{numbers_ordered, numbers_put}
use Rattle.ps_hit.proofs.Nodes.{covers_length, length-numbers_of}
use Rattle.ps_hit.proofs.Whole.{Searching, searching_first, last_node, searching_branch, searching_leaf, searched_every, branch_less, leaf_less}
use Rattle.ps_hit.proofs.search.minimal_hits.Goals as goal

-- the root waits
pub loop-node-init : goal.loop-node-init
loop-node-init c = record {
  searching = searching_first (numbers_of c.args.sets.now) c.in_ok-root.field-0 (numbers_of c.new-found.result.keys) c.push.new.self.items
      (rw c.new-found.ensures.empty refl) (numbers_ordered c.new-found.result.keys c.new-found.ensures.ordered)
      (c.in_ok-push.ensures.items ∙ ap (λ (nodes : List Node). nodes ++ c.in_ok-root.field-0 ∷ []) c.new-waiting.ensures.items)
      c.in_ok-root.ensures.node c.in_ok-root.ensures.above;
  few = rw c.new-found.ensures.empty (search rules);
}

-- there are as many covers as sets
pub branch-alloc-requires-clause-within : goal.branch-alloc-requires-clause-within
branch-alloc-requires-clause-within c =
    let is : IsNode (numbers_of c.args.sets.now) c.in-Some.node = last_node (numbers_of c.args.sets.now) (numbers_of c.loop-node.found.keys) c.loop-node.waiting.items c.pop.new.self.items c.in-Some.node c.in-Some.ensures.items c.loop-node.invariant.searching in
    rw (← (covers_length c.in-Some.node.chosen.items c.args.sets.now c.in-Some.node.covers.items is.covers), ← c.as_slice.ensures.value) c.in-Some-narrowest_unmet.ensures.within

pub branch-alloc-requires-clause-node : goal.branch-alloc-requires-clause-node
branch-alloc-requires-clause-node c =
    last_node (numbers_of c.args.sets.now) (numbers_of c.loop-node.found.keys) c.loop-node.waiting.items c.pop.new.self.items c.in-Some.node c.in-Some.ensures.items c.loop-node.invariant.searching

-- the children of a node have less work than it
pub loop-node-smaller-in-Some-narrowest_unmet : goal.loop-node-smaller-in-Some-narrowest_unmet
loop-node-smaller-in-Some-narrowest_unmet c =
    let is : IsNode (numbers_of c.args.sets.now) c.in-Some.node = last_node (numbers_of c.args.sets.now) (numbers_of c.loop-node.found.keys) c.loop-node.waiting.items c.pop.new.self.items c.in-Some.node c.in-Some.ensures.items c.loop-node.invariant.searching in
    let as_long : length c.in-Some.node.covers.items ≡ length c.args.sets.now = covers_length c.in-Some.node.chosen.items c.args.sets.now c.in-Some.node.covers.items is.covers in
    let within : c.in-Some-narrowest_unmet.place < length c.in-Some.node.covers.items = rw (← c.as_slice.ensures.value) c.in-Some-narrowest_unmet.ensures.within in
    branch_less (numbers_of c.args.sets.now) c.loop-node.waiting.items c.pop.new.self.items c.branch-alloc.new.waiting.items c.in-Some.node c.in-Some-narrowest_unmet.place Unmet c.in-Some.ensures.items
    (rw (length-numbers_of, ← as_long) within) within
    (rw (← c.as_slice.ensures.value) (c.in-Some-narrowest_unmet.ensures.unmet Unmet)) c.in_ok-branch.ensures

-- the node went, and its children wait
pub loop-node-preserved-in-Some-narrowest_unmet : goal.loop-node-preserved-in-Some-narrowest_unmet
loop-node-preserved-in-Some-narrowest_unmet c =
    let is : IsNode (numbers_of c.args.sets.now) c.in-Some.node = last_node (numbers_of c.args.sets.now) (numbers_of c.loop-node.found.keys) c.loop-node.waiting.items c.pop.new.self.items c.in-Some.node c.in-Some.ensures.items c.loop-node.invariant.searching in
    let as_long : length c.in-Some.node.covers.items ≡ length c.args.sets.now = covers_length c.in-Some.node.chosen.items c.args.sets.now c.in-Some.node.covers.items is.covers in
    let within : c.in-Some-narrowest_unmet.place < length c.in-Some.node.covers.items = rw (← c.as_slice.ensures.value) c.in-Some-narrowest_unmet.ensures.within in
    record {
      searching = searching_branch (numbers_of c.args.sets.now) (numbers_of c.loop-node.found.keys) c.loop-node.waiting.items c.pop.new.self.items c.branch-alloc.new.waiting.items c.in-Some.node c.in-Some-narrowest_unmet.place
          c.loop-node.invariant.searching c.in-Some.ensures.items (rw (length-numbers_of, ← as_long) within) c.in_ok-branch.ensures;
      few = c.loop-node.invariant.few;
    }

-- one more was found, and they are too many
pub returns-then-len-most-clause-too_many : goal.returns-then-len-most-clause-too_many
returns-then-len-most-clause-too_many c =
    let after : Searching (numbers_of c.args.sets.now) (numbers_of c.insert.new.self.keys) c.pop.new.self.items =
    searching_leaf (numbers_of c.args.sets.now) (numbers_of c.loop-node.found.keys) (numbers_of c.insert.new.self.keys) c.loop-node.waiting.items c.pop.new.self.items c.in-Some.node c.in_ok-ascending.field-0.items
    c.loop-node.invariant.searching c.in-Some.ensures.items (rw (← c.as_slice.ensures.value) c.in_default-narrowest_unmet.ensures.none) c.in_ok-ascending.ensures.ascends
    (rw (← c.as_slice-chosen.ensures.value) c.in_ok-ascending.ensures.same)
    (rw c.in_ok-insert.ensures.keys (numbers_put c.loop-node.found.keys c.in_ok-ascending.field-0)) (numbers_ordered c.insert.new.self.keys c.len.ensures.ordered) in
    record {
      hits = numbers_of c.insert.new.self.keys;
      are_minimal = after.minimal;
      ordered = after.ordered;
      more = rw length-numbers_of (omega (arith, c.len.ensures.len, c.if-len-most.true));
    }

-- a node less waits
pub loop-node-smaller : goal.loop-node-smaller
loop-node-smaller c = leaf_less (numbers_of c.args.sets.now) c.loop-node.waiting.items c.pop.new.self.items c.in-Some.node c.in-Some.ensures.items

-- one more was found
pub loop-node-preserved : goal.loop-node-preserved
loop-node-preserved c = record {
  searching = searching_leaf (numbers_of c.args.sets.now) (numbers_of c.loop-node.found.keys) (numbers_of c.insert.new.self.keys) c.loop-node.waiting.items c.pop.new.self.items c.in-Some.node c.in_ok-ascending.field-0.items
      c.loop-node.invariant.searching c.in-Some.ensures.items (rw (← c.as_slice.ensures.value) c.in_default-narrowest_unmet.ensures.none) c.in_ok-ascending.ensures.ascends
      (rw (← c.as_slice-chosen.ensures.value) c.in_ok-ascending.ensures.same)
      (rw c.in_ok-insert.ensures.keys (numbers_put c.loop-node.found.keys c.in_ok-ascending.field-0)) (numbers_ordered c.insert.new.self.keys c.len.ensures.ordered);
  few = omega (arith, c.len.ensures.len, c.if-len-most.false);
}

pub returns-clause-minimal : goal.returns-clause-minimal
returns-clause-minimal c = rw c.in_ok-listed.ensures c.loop-node.invariant.searching.minimal

-- nothing waits, so each was found
pub returns-clause-every : goal.returns-clause-every
returns-clause-every c =
    let emptied : c.pop.new.self.items ≡ [] = c.in_default.ensures.rest ∙ ap (λ (n : ℕ). take (n - 1) c.loop-node.waiting.items) c.in_default.ensures.cases.0 in
    let nothing_waits : c.loop-node.waiting.items ≡ [] = c.in_default.ensures.items ∙ ap (λ (nodes : List Node). nodes ++ []) emptied in
    let all : Searching (numbers_of c.args.sets.now) (numbers_of c.loop-node.found.keys) [] = subst (λ (nodes : List Node). Searching (numbers_of c.args.sets.now) (numbers_of c.loop-node.found.keys) nodes) nothing_waits c.loop-node.invariant.searching in
    rw c.in_ok-listed.ensures (searched_every (numbers_of c.args.sets.now) (numbers_of c.loop-node.found.keys) all)
