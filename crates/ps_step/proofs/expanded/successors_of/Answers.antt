use Rattle.std.proofs.Common.{◌≤◌, ℕ, List, [], length, sym, subst}
use Rattle.ps_config.specs.Forms.{AreThreads}
use Rattle.ps_graph.specs.declared.edge.Edge.{Edge}
use Rattle.ps_step.specs.declared.expansion.Successor.{Successor}
use Rattle.ps_step.specs.inner.Parts.{AddsSteps, IsFirstWideAt, IsStepBefore}
use Rattle.ps_step.specs.Wide.{IsFirstWide}
use Rattle.ps_step.proofs.Expanding.{successors_cover}
use Rattle.ps_step.proofs.Over.{ends_weaker}
use Rattle.ps_step.proofs.Turns.{all_narrow, are_all, edge_more, no_edge, wide_edge}
use Rattle.ps_step.proofs.expanded.successors_of.Goals as goal

pub loop-number-init : goal.loop-number-init
loop-number-init g c =
    subst (λ (xs : List Successor). AddsSteps c.args.graph.now (g.B.Shown.entries c.args.basis.now) c.args.config.now c.args.fresh (IsStepBefore c.args.config.now c.args.fresh 0) [] xs) (sym c.new-successors.ensures.items)
    (no_edge c.args.graph.now (g.B.Shown.entries c.args.basis.now) c.args.config.now c.args.fresh [])

pub returns-in-Err-clause-wide : goal.returns-in-Err-clause-wide
returns-in-Err-clause-wide g c =
    ends_weaker (IsFirstWideAt c.args.graph.now (g.B.Shown.entries c.args.basis.now) c.args.config.now c.args.fresh c.loop-number.number)
    (IsFirstWide c.args.graph.now (g.B.Shown.entries c.args.basis.now) c.args.config.now c.args.fresh)
    (wide_edge c.args.graph.now (g.B.Shown.entries c.args.basis.now) c.args.config.now c.args.fresh c.loop-number.number [] c.loop-number.successors.items c.loop-number.invariant) c.in-Err.end c.in-Err.ensures.wide

pub loop-number-preserved : goal.loop-number-preserved
loop-number-preserved g c =
    edge_more c.args.graph.now (g.B.Shown.entries c.args.basis.now) c.args.config.now c.args.fresh c.loop-number.number [] c.loop-number.successors.items c.add_numbered.new.successors.items c.in_default.ensures.adds c.loop-number.invariant

pub returns-clause-are : goal.returns-clause-are
returns-clause-are g c =
    are_all c.args.graph.now (g.B.Shown.entries c.args.basis.now) c.args.config.now c.args.fresh c.loop-number.number c.loop-number.successors.items
    (subst (λ (es : List Edge). length es ≤ c.loop-number.number) c.as_slice-number-end.ensures c.loop-number-test.false) c.loop-number.invariant

pub returns-clause-covered : goal.returns-clause-covered
returns-clause-covered g c =
    successors_cover c.args.graph.now (g.B.Shown.entries c.args.basis.now) c.args.config.now c.args.fresh c.loop-number.successors.items c.requires.tied c.requires.fresh.absent
    (are_all c.args.graph.now (g.B.Shown.entries c.args.basis.now) c.args.config.now c.args.fresh c.loop-number.number c.loop-number.successors.items
    (subst (λ (es : List Edge). length es ≤ c.loop-number.number) c.as_slice-number-end.ensures c.loop-number-test.false) c.loop-number.invariant)

pub returns-clause-narrow : goal.returns-clause-narrow
returns-clause-narrow g c =
    all_narrow c.args.graph.now (g.B.Shown.entries c.args.basis.now) c.args.config.now c.args.fresh c.loop-number.number [] c.loop-number.successors.items
    (subst (λ (es : List Edge). length es ≤ c.loop-number.number) c.as_slice-number-end.ensures c.loop-number-test.false) c.loop-number.invariant

pub add_numbered-requires-clause-threads : goal.add_numbered-requires-clause-threads
add_numbered-requires-clause-threads g c = subst (λ (ts : List ℕ). AreThreads c.args.config.now ts) (sym c.as_slice.ensures) c.threads-threads.ensures
