use Rattle.std.proofs.Common.{◌∙◌, ℕ, List, ap, sym, get_or}
use Rattle.std.specs.Prelude.{◌==◌}
use Rattle.std.specs.List.{list_any}
use Rattle.ps_hit.specs.declared.cover.Cover.TheVariants.{Unmet}
use Rattle.ps_hit.specs.Hitting.{numbers_of}
use Rattle.ps_hit.proofs.Ascending.{numbers_at}
use Rattle.ps_list.proofs.Numbers.{has_from}
use Rattle.ps_hit.proofs.Nodes.{length-numbers_of}
use Rattle.ps_hit.proofs.Branching.{IsUnmet, branching_skip, branching_add, branching_all}
use Rattle.ps_hit.proofs.search.branch.Goals as goal

-- the number was tried at a sibling
pub loop-number-preserved-then-contains : goal.loop-number-preserved-then-contains
loop-number-preserved-then-contains c =
    let number : ℕ = get_or c.as_slice-set.result.now c.loop-number.number-index 0 in
    branching_skip (numbers_of c.args.sets.now) c.args.node.now c.as_slice-set.result.now c.loop-number.number-index 0 c.args.waiting.now.items c.loop-number.barred.items c.loop-number.waiting.items
    c.loop-number.invariant c.loop-number-test.true
    (has_from c.loop-number.barred.items number (ap (λ (xs : List ℕ). list_any (λ m. m == number) xs) (sym c.deref.ensures.value) ∙ sym c.contains.ensures.value ∙ c.if-contains.true))

-- the number is tried
pub loop-number-preserved : goal.loop-number-preserved
loop-number-preserved c =
    let at : IsUnmet (numbers_of c.args.sets.now) c.args.node.now c.args.place c.as_slice-set.result.now = record {
      within = rw length-numbers_of c.requires.within;
      is = numbers_at c.args.sets.now c.args.place c.index-sets-place.result c.requires.within c.index-sets-place.is ∙ sym c.as_slice-set.ensures.value;
      unmet = c.requires.unmet Unmet;
    } in
    branching_add (numbers_of c.args.sets.now) c.args.node.now c.args.place c.as_slice-set.result.now c.loop-number.number-index 0 c.args.waiting.now.items c.loop-number.barred.items c.push.new.self.items c.loop-number.waiting.items c.add_child.new.waiting.items
    c.requires.node at c.loop-number.invariant c.loop-number-test.true (rw (← c.as_slice-in-loop-number.ensures.value) c.in_ok-add_child.ensures) c.in_ok-push.ensures.items

-- each number of the set was tried
pub returns : goal.returns
returns c =
    rw (numbers_at c.args.sets.now c.args.place c.index-sets-place.result c.requires.within c.index-sets-place.is ∙ sym c.as_slice-set.ensures.value)
    (branching_all (numbers_of c.args.sets.now) c.args.node.now c.as_slice-set.result.now c.loop-number.number-index c.args.waiting.now.items c.loop-number.barred.items c.loop-number.waiting.items
    c.loop-number.invariant c.loop-number-test.false c.loop-number.auto.number-index-end)
