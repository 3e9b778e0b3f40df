use Rattle.std.proofs.Common.{List, refl, sym, subst, ◌∙◌}
use Rattle.ps_graph.specs.declared.edge.Edge.{Edge}
use Rattle.ps_trace.specs.Traces.{pairs_in}
use Rattle.ps_trace.specs.inner.Paths.{StartAtMostOnce}
use Rattle.ps_trace.proofs.Begins.{none_begins, once_is}
use Rattle.ps_trace.proofs.error_trace.begin_once_at_most.Goals as goal

pub returns-in-Some : goal.returns-in-Some
returns-in-Some c =
    let q = once_is c.args.graph.now (pairs_in c.args.letters.now) c.in-Some.entry c.requires (sym c.once_entry.ensures ∙ c.in-Some.is) in (
      λ t. q.0 (subst (λ (edges : List Edge). StartAtMostOnce edges c.in-Some.entry (pairs_in c.args.letters.now)) c.as_slice.ensures (c.starts_at_most_once.ensures.0 t)),
      λ h. c.starts_at_most_once.ensures.1 (subst (λ (edges : List Edge). StartAtMostOnce edges c.in-Some.entry (pairs_in c.args.letters.now)) (sym c.as_slice.ensures) (q.1 h)),
    )

pub returns-in-None : goal.returns-in-None
returns-in-None c = (λ t. none_begins c.args.graph.now (pairs_in c.args.letters.now) (sym c.once_entry.ensures ∙ c.in-None.is), λ h. refl)
