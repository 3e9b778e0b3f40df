use Rattle.std.proofs.Common.{◌<◌, ℕ, List, length, length-set, get_or, sym, ap, ◌∙◌, subst}
use Rattle.std.specs.Prelude.{slice_set}
use Rattle.ps_graph.specs.declared.edge.Edge.{Edge}
use Rattle.ps_trace.proofs.Exiting.{exits_more}
use Rattle.ps_trace.proofs.leaving.add_all.Goals as goal

pub loop-i-preserved : goal.loop-i-preserved
loop-i-preserved c =
    let e = c.index-edges-i.result in
    let wide = subst (λ (n : ℕ). (get_or c.args.edges.now c.loop-i.i c.index-edges-i.result).source < n) (sym c.loop-i.invariant.same) (c.requires.sources c.loop-i.i c.index-edges-i.result c.loop-i-test.true) in
    let source = subst (λ (x : Edge). x.source < length c.loop-i.lists.items) (sym c.index-edges-i.is) wide in
    record {
      holds = exits_more c.args.edges.now c.loop-i.lists.items _ c.loop-i.i e c.index_mut.result.now c.loop-i-test.true c.index-edges-i.is source c.loop-i.invariant.holds c.index_mut.ensures.value
          (ap (λ (ns : List ℕ). slice_set c.loop-i.lists.items c.index-edges-i.result.source ns) c.in_ok-add.ensures);
      same = length-set c.loop-i.lists.items c.index-edges-i.result.source c.add.new.self ∙ c.loop-i.invariant.same;
    }
