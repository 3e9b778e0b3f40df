use Rattle.std.proofs.Common.{◌≡◌, ℕ, Global, List, Some, subst, Option}
use Rattle.std.specs.Prelude.{option_map, slice_get}
use Rattle.std.specs.declared.vec.Vec.{Vec}
use Rattle.ps_demand.specs.Candidates.{demanded_of, pairs_of}
use Rattle.ps_demand.specs.Demands.{AreTied}
use Rattle.ps_step.specs.Places.{IsStepTo}
use Rattle.ps_step.specs.Wide.{StepEndsBy}
use Rattle.ps_step.specs.inner.Parts.{AreCandidatesOf, IsWideAt}
use Rattle.ps_step.specs.inner.Sets.{IsNamed, IsWideOf}
use Rattle.ps_triple.specs.declared.entry.Entry.{Entry}
use Rattle.ps_step.proofs.Over.{ends_weaker, err_so, ok_weaker}
use Rattle.ps_step.proofs.StepSets.{edge_at, no_step, step_adds, step_wide}
use Rattle.ps_step.proofs.step.add_step.Goals as goal

pub returns-in-Ok-None-clause-adds : goal.returns-in-Ok-None-clause-adds
returns-in-Ok-None-clause-adds c = λ entries tied are.
    no_step c.args.graph.now entries c.args.config.now c.index-as_slice-number.result c.args.number c.args.thread c.args.successors.now.items tied
    (edge_at c.args.graph.now c.as_slice.result.now c.args.number c.index-as_slice-number.result c.as_slice.ensures c.requires c.index-as_slice-number.is)
    (subst (λ (o : Option (Vec (ℕ × ℕ) Global)). IsStepTo c.args.graph.now c.args.config.now c.index-as_slice-number.result c.args.thread (option_map (λ at. at.items) o)) c.in-Ok-None.field-0-is c.in-Ok-None.ensures)

pub returns-in-Ok-Some-clause-adds : goal.returns-in-Ok-Some-clause-adds
returns-in-Ok-Some-clause-adds c =
    let is : slice_get c.args.graph.now.edges c.args.number ≡ Some c.index-as_slice-number.result = edge_at c.args.graph.now c.as_slice.result.now c.args.number c.index-as_slice-number.result c.as_slice.ensures c.requires c.index-as_slice-number.is in
    ok_weaker (λ a entries tied are. step_adds c.args.graph.now entries c.args.config.now c.index-as_slice-number.result c.args.number c.args.thread c.args.successors.now.items c.add_least.new.successors.items
    c.in-Ok-Some.at.items c.as_slice-in-Ok-Some.result.now (pairs_of c.args.candidates.now) tied is
    (subst (λ (o : Option (Vec (ℕ × ℕ) Global)). IsStepTo c.args.graph.now c.args.config.now c.index-as_slice-number.result c.args.thread (option_map (λ at. at.items) o)) c.in-Ok-Some.field-0-is c.in-Ok-Some.ensures)
    c.as_slice-in-Ok-Some.ensures.value (are c.index-as_slice-number.result is) a) c.add_least.result c.add_least.ensures.adds

pub returns-in-Ok-Some-clause-wide : goal.returns-in-Ok-Some-clause-wide
returns-in-Ok-Some-clause-wide c =
    let is : slice_get c.args.graph.now.edges c.args.number ≡ Some c.index-as_slice-number.result = edge_at c.args.graph.now c.as_slice.result.now c.args.number c.index-as_slice-number.result c.as_slice.ensures c.requires c.index-as_slice-number.is in
    let Wide = IsNamed c.args.number c.args.thread (IsWideOf (demanded_of c.args.thread c.index-as_slice-number.result.command (pairs_of c.args.candidates.now)) c.as_slice-in-Ok-Some.result.now) in
    err_so (StepEndsBy Wide)
    (λ end. (entries : List Entry) → AreTied entries → AreCandidatesOf c.args.graph.now entries c.args.config.now c.args.number (pairs_of c.args.candidates.now) → StepEndsBy (IsWideAt c.args.graph.now entries c.args.config.now c.args.number c.args.thread) end)
    (λ end h entries tied are. ends_weaker Wide (IsWideAt c.args.graph.now entries c.args.config.now c.args.number c.args.thread)
    (step_wide c.args.graph.now entries c.args.config.now c.index-as_slice-number.result c.args.number c.args.thread
    c.in-Ok-Some.at.items c.as_slice-in-Ok-Some.result.now (pairs_of c.args.candidates.now) tied is
    (subst (λ (o : Option (Vec (ℕ × ℕ) Global)). IsStepTo c.args.graph.now c.args.config.now c.index-as_slice-number.result c.args.thread (option_map (λ at. at.items) o)) c.in-Ok-Some.field-0-is c.in-Ok-Some.ensures)
    c.as_slice-in-Ok-Some.ensures.value (are c.index-as_slice-number.result is)) end h) c.add_least.result c.add_least.ensures.wide
