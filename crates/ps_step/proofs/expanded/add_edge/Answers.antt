use Rattle.std.proofs.Common.{◌<◌, ◌∙◌, List, ℕ, ◌+◌, Some, None, ap, arith, rules, sym}
use Rattle.ps_config.proofs.Nexts.{next_listed}
use Rattle.ps_demand.specs.Candidates.{candidates, pairs_of}
use Rattle.ps_demand.specs.Demands.{AreTied}
use Rattle.ps_graph.specs.declared.edge.Edge.{Edge}
use Rattle.ps_step.specs.Wide.{StepEndsBy}
use Rattle.ps_step.specs.inner.Parts.{AreCandidatesOf, IsFirstWideAt, IsWideAt}
use Rattle.ps_triple.specs.declared.entry.Entry.{Entry}
use Rattle.ps_step.proofs.Over.{ends_weaker, err_so, ok_weaker}
use Rattle.ps_step.proofs.StepSets.{candidates_are, edge_at}
use Rattle.ps_step.proofs.Turns.{all_threads, no_thread, thread_more, wide_fresh, wide_thread}
use Rattle.ps_step.proofs.expanded.add_edge.Goals as goal

pub loop-thread-init : goal.loop-thread-init
loop-thread-init g c = record {
  steps = no_thread c.args.graph.now (g.B.Shown.entries c.args.basis.now) c.args.config.now c.args.fresh c.args.number c.args.successors.now.items;
  fits = omega arith;
}

pub returns-in-Err-add_step-clause-wide : goal.returns-in-Err-add_step-clause-wide
returns-in-Err-add_step-clause-wide g c =
    let are : AreCandidatesOf c.args.graph.now (g.B.Shown.entries c.args.basis.now) c.args.config.now c.args.number (pairs_of c.as_slice-found.result.now) =
    (candidates_are c.args.graph.now (g.B.Shown.entries c.args.basis.now) c.args.config.now c.index-as_slice-number.result c.args.number c.in-Ok.candidates.items c.as_slice-found.result.now c.atoms.result.now
    (edge_at c.args.graph.now c.as_slice.result.now c.args.number c.index-as_slice-number.result c.as_slice.ensures c.requires.exists c.index-as_slice-number.is) c.atoms.ensures.list c.as_slice-found.ensures.value (c.in-Ok.ensures ∙ ap (λ (e : Edge). candidates (g.B.Shown.entries c.args.basis.now) c.atoms.result.now e.command) (sym c.index-as_slice-number.is))) in
    ends_weaker (IsWideAt c.args.graph.now (g.B.Shown.entries c.args.basis.now) c.args.config.now c.args.number c.in-Some.thread)
    (IsFirstWideAt c.args.graph.now (g.B.Shown.entries c.args.basis.now) c.args.config.now c.args.fresh c.args.number)
    (wide_thread c.args.graph.now (g.B.Shown.entries c.args.basis.now) c.args.config.now c.args.fresh c.args.number c.loop-thread.from c.in-Some.thread c.args.successors.now.items c.loop-thread.successors.items
    c.requires.fresh (next_listed c.args.config.now c.args.threads.now c.loop-thread.from (Some c.in-Some.thread) c.requires.threads c.in-Some.ensures) c.loop-thread.invariant.steps) c.in-Err-add_step.end (c.in-Err-add_step.ensures.wide (g.B.Shown.entries c.args.basis.now) c.requires.tied are)

pub loop-thread-preserved : goal.loop-thread-preserved
loop-thread-preserved g c =
    let small : c.in-Some.thread < 4294967296 = search rules in
    let are : AreCandidatesOf c.args.graph.now (g.B.Shown.entries c.args.basis.now) c.args.config.now c.args.number (pairs_of c.as_slice-found.result.now) =
    (candidates_are c.args.graph.now (g.B.Shown.entries c.args.basis.now) c.args.config.now c.index-as_slice-number.result c.args.number c.in-Ok.candidates.items c.as_slice-found.result.now c.atoms.result.now
    (edge_at c.args.graph.now c.as_slice.result.now c.args.number c.index-as_slice-number.result c.as_slice.ensures c.requires.exists c.index-as_slice-number.is) c.atoms.ensures.list c.as_slice-found.ensures.value (c.in-Ok.ensures ∙ ap (λ (e : Edge). candidates (g.B.Shown.entries c.args.basis.now) c.atoms.result.now e.command) (sym c.index-as_slice-number.is))) in
    record {
      steps = thread_more c.args.graph.now (g.B.Shown.entries c.args.basis.now) c.args.config.now c.args.fresh c.args.number c.loop-thread.from c.in-Some.thread (c.from-from.result + 1) c.args.successors.now.items c.loop-thread.successors.items c.add_step.new.successors.items
          c.requires.fresh (next_listed c.args.config.now c.args.threads.now c.loop-thread.from (Some c.in-Some.thread) c.requires.threads c.in-Some.ensures) (ap (λ (n : ℕ). n + 1) c.from-from.ensures) (c.in_default-add_step.ensures.adds (g.B.Shown.entries c.args.basis.now) c.requires.tied are) c.loop-thread.invariant.steps;
      fits = omega (arith, small, c.from-from.ensures);
    }

pub returns-clause-adds : goal.returns-clause-adds
returns-clause-adds g c =
    let are : AreCandidatesOf c.args.graph.now (g.B.Shown.entries c.args.basis.now) c.args.config.now c.args.number (pairs_of c.as_slice-found.result.now) =
    (candidates_are c.args.graph.now (g.B.Shown.entries c.args.basis.now) c.args.config.now c.index-as_slice-number.result c.args.number c.in-Ok.candidates.items c.as_slice-found.result.now c.atoms.result.now
    (edge_at c.args.graph.now c.as_slice.result.now c.args.number c.index-as_slice-number.result c.as_slice.ensures c.requires.exists c.index-as_slice-number.is) c.atoms.ensures.list c.as_slice-found.ensures.value (c.in-Ok.ensures ∙ ap (λ (e : Edge). candidates (g.B.Shown.entries c.args.basis.now) c.atoms.result.now e.command) (sym c.index-as_slice-number.is))) in
    ok_weaker (λ step. all_threads c.args.graph.now (g.B.Shown.entries c.args.basis.now) c.args.config.now c.args.fresh c.args.number c.loop-thread.from c.args.successors.now.items c.loop-thread.successors.items c.add_step-2.new.successors.items
    c.requires.fresh (next_listed c.args.config.now c.args.threads.now c.loop-thread.from None c.requires.threads c.in_default.ensures) (step (g.B.Shown.entries c.args.basis.now) c.requires.tied are) c.loop-thread.invariant.steps) c.add_step-2.result c.add_step-2.ensures.adds

pub returns-clause-wide : goal.returns-clause-wide
returns-clause-wide g c =
    let are : AreCandidatesOf c.args.graph.now (g.B.Shown.entries c.args.basis.now) c.args.config.now c.args.number (pairs_of c.as_slice-found.result.now) =
    (candidates_are c.args.graph.now (g.B.Shown.entries c.args.basis.now) c.args.config.now c.index-as_slice-number.result c.args.number c.in-Ok.candidates.items c.as_slice-found.result.now c.atoms.result.now
    (edge_at c.args.graph.now c.as_slice.result.now c.args.number c.index-as_slice-number.result c.as_slice.ensures c.requires.exists c.index-as_slice-number.is) c.atoms.ensures.list c.as_slice-found.ensures.value (c.in-Ok.ensures ∙ ap (λ (e : Edge). candidates (g.B.Shown.entries c.args.basis.now) c.atoms.result.now e.command) (sym c.index-as_slice-number.is))) in
    err_so
    (λ end. (entries : List Entry) → AreTied entries → AreCandidatesOf c.args.graph.now entries c.args.config.now c.args.number (pairs_of c.as_slice-found.result.now) → StepEndsBy (IsWideAt c.args.graph.now entries c.args.config.now c.args.number c.args.fresh) end)
    (StepEndsBy (IsFirstWideAt c.args.graph.now (g.B.Shown.entries c.args.basis.now) c.args.config.now c.args.fresh c.args.number))
    (λ end wide. ends_weaker (IsWideAt c.args.graph.now (g.B.Shown.entries c.args.basis.now) c.args.config.now c.args.number c.args.fresh)
    (IsFirstWideAt c.args.graph.now (g.B.Shown.entries c.args.basis.now) c.args.config.now c.args.fresh c.args.number)
    (wide_fresh c.args.graph.now (g.B.Shown.entries c.args.basis.now) c.args.config.now c.args.fresh c.args.number c.loop-thread.from c.args.successors.now.items c.loop-thread.successors.items
    c.requires.fresh (next_listed c.args.config.now c.args.threads.now c.loop-thread.from None c.requires.threads c.in_default.ensures) c.loop-thread.invariant.steps) end (wide (g.B.Shown.entries c.args.basis.now) c.requires.tied are)) c.add_step-2.result c.add_step-2.ensures.wide
