use Rattle.std.proofs.Common.{ℕ, List, subst, sym, ◌∙◌, ap}
use Rattle.std.specs.Prelude.{Some}
use Rattle.ps_demand.specs.Pools.{lists_of}
use Rattle.ps_step.specs.Places.{IsStepTo}
use Rattle.ps_check.proofs.Before.{read_slice}
use Rattle.ps_check.proofs.Stepping.{no_step_covered, step_judged}
use Rattle.ps_check.proofs.steps.is_step_covered.Goals as goal

pub returns-in-None : goal.returns-in-None
returns-in-None c =
    no_step_covered c.args.graph.now c.args.front.now c.args.configs.now c.args.from.now c.index-as_slice-edge.result c.args.edge c.args.thread
    (read_slice c.args.graph.now.edges c.as_slice.result.now c.args.edge c.index-as_slice-edge.result c.as_slice.ensures c.requires.exists c.index-as_slice-edge.is)
    (rw c.in-None.is at c.in_ok-step_to.ensures)

pub returns-in_ok-covered-in-Some : goal.returns-in_ok-covered-in-Some
returns-in_ok-covered-in-Some c =
    step_judged c.args.graph.now c.args.front.now c.args.configs.now c.args.from.now c.index-as_slice-edge.result c.args.edge c.args.thread c.as_slice-places.result.now c.atoms.result.now (lists_of c.as_slice-in-Some.result.now) c.requires.tied
    (read_slice c.args.graph.now.edges c.as_slice.result.now c.args.edge c.index-as_slice-edge.result c.as_slice.ensures c.requires.exists c.index-as_slice-edge.is)
    (subst (λ (at : List (ℕ × ℕ)). IsStepTo c.args.graph.now c.args.from.now c.index-as_slice-edge.result c.args.thread (Some at)) (sym c.as_slice-places.ensures.value) (rw c.in-Some.is at c.in_ok-step_to.ensures))
    c.atoms.ensures.list (ap lists_of c.as_slice-in-Some.ensures.value ∙ c.in_ok-sets-in-Some.ensures) c.in_ok-covered-in-Some.covered c.in_ok-covered-in-Some.ensures
