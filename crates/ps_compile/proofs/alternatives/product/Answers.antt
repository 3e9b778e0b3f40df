use Rattle.std.proofs.Common.{rules, ◌≡◌, ◌<◌, ◌++◌, List, length, map}
use Rattle.ps_compile.proofs.Alternating.{product_step}
use Rattle.ps_compile.proofs.alternatives.product.Goals as goal
use Rattle.ps_graph.specs.Alternatives.{product}
use Rattle.ps_term.specs.declared.row.Row.{Row}

pub loop-first-preserved : goal.loop-first-preserved
loop-first-preserved c =
    let l : c.loop-first.first-index < length c.args.firsts.now = search rules in
    let n : c.append_each.new.all.items ≡ c.loop-first.all.items ++ map (λ (y : List Row). c.first-item.result ++ y) c.args.seconds.now = search rules in
    product_step c.args.firsts.now c.args.seconds.now c.loop-first.first-index c.first-item.result c.first-item.result c.loop-first.all.items c.append_each.new.all.items
    (product c.args.firsts.now c.args.seconds.now) l c.first-item.is c.loop-first.invariant n
