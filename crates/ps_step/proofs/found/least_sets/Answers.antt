use Rattle.std.proofs.Common.{◌≤◌, ◌∙◌, List, ap, arith, length, subst, sym}
use Rattle.ps_atom.specs.declared.atom.Atom.{Atom}
use Rattle.ps_demand.specs.Candidates.{demanded_of, pairs_of}
use Rattle.ps_demand.specs.Hitting.{HitsAll}
use Rattle.ps_demand.specs.Pools.{lists_of}
use Rattle.ps_step.specs.declared.expand_end.TheConstants.{MOST_SETS}
use Rattle.ps_step.specs.inner.Found.{AreAllLeast, AreLeast}
use Rattle.ps_step.specs.inner.Only.{IsOnlySet}
use Rattle.ps_step.proofs.Alone.{all_of, found_only, found_same, only_of}
use Rattle.ps_step.proofs.found.least_sets.Goals as goal

pub returns-then-meet_all : goal.returns-then-meet_all
returns-then-meet_all c =
    let wanted : List (List Atom) = demanded_of c.args.thread c.args.command (pairs_of c.args.candidates.now) in
    let ordered : List Atom = c.put_in_order.new.atoms.items in
    let others : List (List Atom) = lists_of c.in_ok-alone.field-0.others.items in
    let hits : HitsAll others ordered =
    subst (λ (qs : List Atom). HitsAll others qs) c.as_slice.ensures.value (subst (λ (sets : List (List Atom)). HitsAll sets c.as_slice.result.now) (ap lists_of c.as_slice-2.ensures.value) (c.meet_all.ensures c.if-meet_all.true)) in
    let only : IsOnlySet wanted ordered = only_of wanted others c.in_ok-alone.field-0.alone.items ordered c.in_ok-alone.ensures.alone c.in_ok-alone.ensures.others c.put_in_order.ensures.ascends c.put_in_order.ensures.same hits in
    subst (λ (sets : List (List Atom)). AreLeast wanted sets × AreAllLeast wanted sets × (length sets ≤ MOST_SETS)) (sym c.in_ok-sets.ensures) (found_only wanted ordered MOST_SETS (omega arith) only)

pub returns : goal.returns
returns c =
    let wanted : List (List Atom) = demanded_of c.args.thread c.args.command (pairs_of c.args.candidates.now) in
    found_same (lists_of c.as_slice-3.result.now) wanted MOST_SETS
    (all_of wanted (lists_of c.in_ok-alone.field-0.others.items) (lists_of c.as_slice-3.result.now) c.in_ok-alone.field-0.alone.items c.put_in_order.new.atoms.items c.in_ok-alone.ensures.alone c.in_ok-alone.ensures.others c.put_in_order.ensures.same
    (ap lists_of c.as_slice-3.ensures.value ∙ c.in_ok-sets-2.ensures)) c.in_ok-found.found c.in_ok-found.ensures
