use Rattle.std.proofs.Common.{◌≡◌, ◌++◌, ◌-◌, ◌+◌, ◌∙◌, ℕ, List, [], ap, refl, subst, take}
use Rattle.std.proofs.lemmas.Bool.{both_ways}
use Rattle.ps_atom.specs.declared.atom.Atom.{Atom}
use Rattle.ps_check.specs.declared.branches.Branch.{Branch}
use Rattle.ps_demand.specs.Pools.{lists_of}
use Rattle.ps_step.specs.Closed.{IsCovered}
use Rattle.ps_check.proofs.Adding.{list_at}
use Rattle.ps_check.proofs.Hitting.{searching_branched, searching_covered, searching_done, searching_first, searching_found}
use Rattle.ps_check.proofs.Works.{branch_less, leaf_less}
use Rattle.ps_check.proofs.branches.are_hits_covered.Goals as goal

pub loop-branch-init : goal.loop-branch-init
loop-branch-init c =
    searching_first c.args.configs.now c.args.at.now (lists_of c.args.sets.now) (record { chosen = c.new-none.result; next = 0 }) c.new-waiting.result.items c.push.new.self.items c.new-waiting.ensures.items c.in_ok-push.ensures.items
    c.new-none.ensures.items refl

pub loop-branch-preserved-then-is_covered : goal.loop-branch-preserved-then-is_covered
loop-branch-preserved-then-is_covered c =
    searching_covered c.args.configs.now c.args.at.now (lists_of c.args.sets.now) c.loop-branch.waiting.items c.pop.new.self.items c.in-Some.branch c.in-Some.ensures.items c.loop-branch.invariant
    (subst (λ (qs : List Atom). IsCovered c.args.configs.now (record { at = c.args.at.now; atoms = qs })) c.as_slice-chosen.ensures.value (c.is_covered.ensures.0 c.if-is_covered.true))

pub loop-branch-smaller-then-is_covered : goal.loop-branch-smaller-then-is_covered
loop-branch-smaller-then-is_covered c = leaf_less (lists_of c.args.sets.now) c.loop-branch.waiting.items c.pop.new.self.items c.in-Some.branch c.in-Some.ensures.items

pub returns-in-None : goal.returns-in-None
returns-in-None c =
    searching_found c.args.configs.now c.args.at.now (lists_of c.args.sets.now) c.loop-branch.waiting.items c.pop.new.self.items c.in-Some.branch c.as_slice-chosen.result.now c.in-Some.ensures.items c.as_slice-chosen.ensures.value c.loop-branch.invariant
    c.in-None.ensures.unmet (λ h. both_ways c.is_covered.result c.if-is_covered.false (c.is_covered.ensures.1 h))

pub loop-branch-preserved : goal.loop-branch-preserved
loop-branch-preserved c =
    searching_branched c.args.configs.now c.args.at.now (lists_of c.args.sets.now) c.loop-branch.waiting.items c.pop.new.self.items c.add_branches.new.waiting.items c.in-Some.branch c.as_slice-chosen.result.now c.as_slice.result.now
    c.in-Some-next_unmet.place (c.in-Some-next_unmet.place + 1) c.in-Some.ensures.items c.as_slice-chosen.ensures.value c.loop-branch.invariant c.in-Some-next_unmet.ensures.unmet
    (list_at c.args.sets.now c.in-Some-next_unmet.place c.index-sets-place.result c.as_slice.result.now c.in-Some-next_unmet.ensures.within c.index-sets-place.is c.as_slice.ensures.value) refl c.in_ok-add_branches-in-Some-next_unmet.ensures

pub loop-branch-smaller : goal.loop-branch-smaller
loop-branch-smaller c =
    branch_less (lists_of c.args.sets.now) c.loop-branch.waiting.items c.pop.new.self.items c.add_branches.new.waiting.items c.in-Some.branch c.as_slice-chosen.result.now c.as_slice.result.now
    c.in-Some-next_unmet.place (c.in-Some-next_unmet.place + 1) c.in-Some.ensures.items c.in-Some-next_unmet.ensures.unmet.0
    (list_at c.args.sets.now c.in-Some-next_unmet.place c.index-sets-place.result c.as_slice.result.now c.in-Some-next_unmet.ensures.within c.index-sets-place.is c.as_slice.ensures.value) refl c.in_ok-add_branches-in-Some-next_unmet.ensures

pub returns : goal.returns
returns c =
    let emptied : c.pop.new.self.items ≡ [] = c.in_default.ensures.rest ∙ ap (λ (n : ℕ). take (n - 1) c.loop-branch.waiting.items) c.in_default.ensures.cases.0 in
    let nothing_waits : c.loop-branch.waiting.items ≡ [] = c.in_default.ensures.items ∙ ap (λ (bs : List Branch). bs ++ []) emptied in
    searching_done c.args.configs.now c.args.at.now (lists_of c.args.sets.now) c.loop-branch.waiting.items nothing_waits c.loop-branch.invariant
