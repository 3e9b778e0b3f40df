use Rattle.std.proofs.Common.{◌<◌, ℕ, List, length, sym, ap, ◌∙◌, subst}
use Rattle.std.specs.Prelude.{slice_index_or}
use Rattle.std.proofs.lemmas.List.{length-replicate}
use Rattle.ps_graph.specs.declared.edge.Edge.{Edge}
use Rattle.ps_trace.proofs.Exiting.{no_exits}
use Rattle.ps_trace.proofs.Owning.{sources_exist}
use Rattle.ps_trace.proofs.leaving.Leaving.of.Goals as goal

pub add_all-requires-clause-sources : goal.add_all-requires-clause-sources
add_all-requires-clause-sources c = λ k d w.
    let inside = subst (λ (es : List Edge). k < length es) c.as_slice.ensures w in
    let wide = subst (λ (es : List Edge). (slice_index_or es k d).source < c.args.graph.now.locations) (sym c.as_slice.ensures) (sources_exist c.args.graph.now k d inside) in
    subst (λ (n : ℕ). (slice_index_or c.as_slice.result.now k d).source < n) (sym (ap length c.in_ok-lists.ensures ∙ length-replicate c.args.graph.now.locations _)) wide

pub add_all-requires-clause-empty : goal.add_all-requires-clause-empty
add_all-requires-clause-empty c = no_exits c.args.graph.now.locations c.in_ok-lists.lists.items c.in_ok-lists.ensures
