use Rattle.std.proofs.Common.{rules, arith, get_or, ◌≡◌, ◌<◌, ◌-◌, ◌++◌, ◌∙◌, length, map, sym, ap, subst, List, IfOk}
use Rattle.ps_compile.specs.inner.Counts.{paths_of}
use Rattle.ps_graph.specs.Paths.{Act, paths}
use Rattle.ps_compile.proofs.Counting.{atomic_is}
use Rattle.ps_tree.specs.declared.stmt.Stmt.{Stmt}
use Rattle.ps_compile.specs.inner.Drafts.{route_of}
use Rattle.ps_compile.proofs.Routing.{routes_step, if_routes}
use Rattle.ps_compile.specs.inner.Compilable.{StmtIsCompilable}
use Rattle.ps_compile.specs.inner.Weights.{weight}
use Rattle.ps_compile.proofs.Parts.{atomic_block, atomic_weight, failed_weight, held_weight, if_failed, if_held, item, item_weight}
use Rattle.ps_compile.proofs.routes.+routes.Goals as goal

pub block_routes-loop-i-preserved : goal.block_routes-loop-i-preserved
block_routes-loop-i-preserved t c =
    let pos : 0 < c.loop-i.i = search rules in
    let lt : c.loop-i.i - 1 < length c.args.block.now = search rules in
    routes_step c.in_ok-all-2.all.items c.in_ok-first.first.items c.loop-i.all.items c.as_slice.result.now c.as_slice-in-loop-i.result.now c.index-block-i.result c.args.block.now c.loop-i.i
    pos lt c.index-block-i.is (c.in_ok-first.ensures ∙ ap (λ (s : Stmt). map route_of (paths s.kind)) (sym c.index-block-i.is)) c.loop-i.invariant c.as_slice.ensures.value c.as_slice-in-loop-i.ensures.value c.in_ok-all-2.ensures

pub stmt_routes-returns-in-Atomic : goal.stmt_routes-returns-in-Atomic
stmt_routes-returns-in-Atomic t c =
    subst (λ (ps : List (List Act)). IfOk c.block_routes.result (λ v. v.items ≡ map route_of ps)) (ap paths_of c.as_slice.ensures ∙ sym (atomic_is c.in-Atomic.block) ∙ ap paths (sym c.in-Atomic.is)) c.block_routes.ensures

pub stmt_routes-returns-in_ok-append-in-If : goal.stmt_routes-returns-in_ok-append-in-If
stmt_routes-returns-in_ok-append-in-If t c =
    let h : c.append.new.self.items ≡ c.in_ok-all-in-If.all.items ++ c.in_ok-others-in-If.others.items = search rules in
    if_routes c.args.kind.now c.in-If.test c.in-If.held c.in-If.failed c.as_slice-in-If.result.now c.as_slice-in-If-4.result.now c.append.new.self.items c.in_ok-all-in-If.all.items c.in_ok-others-in-If.others.items
    c.in_ok-holds-in-If.holds.items c.as_slice-in-If-2.result.now c.in_ok-fails-in-If.fails.items c.as_slice-in-If-5.result.now c.in_ok-first-in-If.first.items c.as_slice-in-If-3.result.now
    c.in_ok-second-in-If.second.items c.as_slice-in-If-6.result.now c.in-If.is c.as_slice-in-If.ensures c.as_slice-in-If-4.ensures
    c.in_ok-holds-in-If.ensures c.as_slice-in-If-2.ensures.value c.in_ok-first-in-If.ensures c.as_slice-in-If-3.ensures.value c.in_ok-all-in-If.ensures
    c.in_ok-fails-in-If.ensures c.as_slice-in-If-5.ensures.value c.in_ok-second-in-If.ensures c.as_slice-in-If-6.ensures.value c.in_ok-others-in-If.ensures h

pub stmt_routes-block_routes-requires : goal.stmt_routes-block_routes-requires
stmt_routes-block_routes-requires t c = (
  omega (arith, c.decreases, atomic_weight c.args.kind.now c.in-Atomic.block c.as_slice.result.now c.in-Atomic.is c.as_slice.ensures),
  atomic_block c.args.kind.now c.in-Atomic.block c.as_slice.result.now c.in-Atomic.is c.as_slice.ensures c.requires,
)

pub stmt_routes-block_routes-requires-in-If : goal.stmt_routes-block_routes-requires-in-If
stmt_routes-block_routes-requires-in-If t c = (
  omega (arith, c.decreases, held_weight c.args.kind.now c.in-If.test c.in-If.held c.in-If.failed c.as_slice-in-If.result.now c.in-If.is c.as_slice-in-If.ensures),
  if_held c.args.kind.now c.in-If.test c.in-If.held c.in-If.failed c.as_slice-in-If.result.now c.in-If.is c.as_slice-in-If.ensures c.requires,
)

pub stmt_routes-block_routes-requires-in-If-2 : goal.stmt_routes-block_routes-requires-in-If-2
stmt_routes-block_routes-requires-in-If-2 t c = (
  omega (arith, c.decreases, failed_weight c.args.kind.now c.in-If.test c.in-If.held c.in-If.failed c.as_slice-in-If-4.result.now c.in-If.is c.as_slice-in-If-4.ensures),
  if_failed c.args.kind.now c.in-If.test c.in-If.held c.in-If.failed c.as_slice-in-If-4.result.now c.in-If.is c.as_slice-in-If-4.ensures c.requires,
)

pub block_routes-stmt_routes-requires : goal.block_routes-stmt_routes-requires
block_routes-stmt_routes-requires t c =
    let lt : c.loop-i.i - 1 < length c.args.block.now = search rules in
    let same : (get_or c.args.block.now (c.loop-i.i - 1) c.index-block-i.result).kind ≡ c.index-block-i.result.kind = ap (λ (s : Stmt). s.kind) (sym c.index-block-i.is) in (
      omega (arith, c.decreases, ap weight same, item_weight c.args.block.now (c.loop-i.i - 1) c.index-block-i.result lt c.index-block-i.is),
      subst StmtIsCompilable (sym same) (item c.args.block.now (c.loop-i.i - 1) c.index-block-i.result lt c.index-block-i.is c.requires),
    )
