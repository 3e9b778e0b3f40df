use Rattle.std.proofs.Common.{rules, arith, ◌≡◌, ◌<◌, get_or, length, List, ap, ap₂, sym, ◌∙◌}
use Rattle.ps_compile.specs.Layout.{inner_of, sites_of}
use Rattle.ps_tree.specs.declared.stmt.Stmt.{Stmt}
use Rattle.ps_tree.specs.declared.stmt.StmtKind.TheVariants.{If, While}
use Rattle.ps_compile.proofs.Blocks.{block_fails, block_steps, if_err, if_err_held, if_lays, while_err, while_lays}
use Rattle.ps_compile.specs.inner.Weights.{weight}
use Rattle.ps_compile.proofs.Parts.{failed_weight, held_weight, if_failed, if_held, item, item_weight, while_block, while_weight}
use Rattle.ps_compile.proofs.layout.+layout.Goals as goal

pub lay_block-returns-in-Err-lay_stmt : goal.lay_block-returns-in-Err-lay_stmt
lay_block-returns-in-Err-lay_stmt t c =
    let lt : c.loop-i.i < length c.args.block.now = search rules in
    block_fails 0 c.args.plan.now c.loop-i.plan c.start.new.plan c.index-block-i.result c.args.block.now c.tail.result.now c.loop-i.i c.loop-i.from c.in-Ok.to c.args.z
    (sites_of c.args.block.now c.args.a c.args.z (length c.args.plan.now.owners.items)) (inner_of c.args.block.now) c.in-Err-lay_stmt.end
    lt c.index-block-i.is c.tail.ensures c.loop-i.invariant c.in-Ok.ensures.at c.in-Ok.ensures.drafts c.in-Ok.ensures.owners c.in-Err-lay_stmt.ensures

pub lay_block-loop-i-preserved : goal.lay_block-loop-i-preserved
lay_block-loop-i-preserved t c =
    let lt : c.loop-i.i < length c.args.block.now = search rules in
    block_steps 0 c.args.plan.now c.loop-i.plan c.start.new.plan c.lay_stmt.new.plan c.index-block-i.result c.args.block.now c.tail.result.now c.loop-i.i c.loop-i.from c.in-Ok.to c.args.z
    (sites_of c.args.block.now c.args.a c.args.z (length c.args.plan.now.owners.items)) (inner_of c.args.block.now)
    lt c.index-block-i.is c.tail.ensures c.loop-i.invariant c.in-Ok.ensures.at c.in-Ok.ensures.drafts c.in-Ok.ensures.owners c.in-Ok-lay_stmt.ensures

pub lay_stmt-returns-in-Err : goal.lay_stmt-returns-in-Err
lay_stmt-returns-in-Err t c =
    if_err c.args.stmt.now.place c.args.stmt.now.kind c.in-If.test c.as_slice-held.result.now c.as_slice-failed.result.now c.args.a c.args.b
    (length c.args.plan.now.drafts.items) (length c.args.plan.now.owners.items) c.in-Err.end
    (c.in-If.is ∙ ap₂ (λ (x y : List Stmt). If c.in-If.test x y) (sym c.as_slice-held.ensures) (sym c.as_slice-failed.ensures)) c.in-Err.ensures

pub lay_stmt-returns-in-Err-lay_block : goal.lay_stmt-returns-in-Err-lay_block
lay_stmt-returns-in-Err-lay_block t c =
    if_err_held 0 c.args.plan.now c.open_if.new.plan c.args.stmt.now.place c.args.stmt.now.kind c.in-If.test c.as_slice-held.result.now c.as_slice-failed.result.now c.args.a c.args.b c.in-Ok.starts c.in-Err-lay_block.end
    (c.in-If.is ∙ ap₂ (λ (x y : List Stmt). If c.in-If.test x y) (sym c.as_slice-held.ensures) (sym c.as_slice-failed.ensures)) c.in-Ok.ensures c.in-Err-lay_block.ensures

pub lay_stmt-returns-in-Ok-lay_block : goal.lay_stmt-returns-in-Ok-lay_block
lay_stmt-returns-in-Ok-lay_block t c =
    if_lays c.lay_block-in-If.result 0 c.args.plan.now c.open_if.new.plan c.lay_block.new.plan c.lay_block-in-If.new.plan c.args.stmt.now.place c.args.stmt.now.kind
    c.in-If.test c.as_slice-held.result.now c.as_slice-failed.result.now c.args.a c.args.b c.in-Ok.starts
    (c.in-If.is ∙ ap₂ (λ (x y : List Stmt). If c.in-If.test x y) (sym c.as_slice-held.ensures) (sym c.as_slice-failed.ensures)) c.in-Ok.ensures c.in-Ok-lay_block.ensures c.lay_block-in-If.ensures

pub lay_stmt-returns-in-Err-open_while : goal.lay_stmt-returns-in-Err-open_while
lay_stmt-returns-in-Err-open_while t c =
    while_err c.args.stmt.now.place c.args.stmt.now.kind c.in-While.test c.as_slice-block.result.now c.args.a c.args.b
    (length c.args.plan.now.drafts.items) (length c.args.plan.now.owners.items) c.in-Err-open_while.end
    (c.in-While.is ∙ ap (λ (x : List Stmt). While c.in-While.test x) (sym c.as_slice-block.ensures)) c.in-Err-open_while.ensures

pub lay_stmt-returns-in-Ok-open_while : goal.lay_stmt-returns-in-Ok-open_while
lay_stmt-returns-in-Ok-open_while t c =
    while_lays c.lay_block-in-While.result 0 c.args.plan.now c.open_while.new.plan c.lay_block-in-While.new.plan c.args.stmt.now.place c.args.stmt.now.kind
    c.in-While.test c.as_slice-block.result.now c.args.a c.args.b c.in-Ok-open_while.first
    (c.in-While.is ∙ ap (λ (x : List Stmt). While c.in-While.test x) (sym c.as_slice-block.ensures)) c.in-Ok-open_while.ensures c.lay_block-in-While.ensures

pub lay_stmt-lay_block-requires : goal.lay_stmt-lay_block-requires
lay_stmt-lay_block-requires t c = (
  omega (arith, c.decreases, held_weight c.args.stmt.now.kind c.in-If.test c.in-If.held c.in-If.failed c.as_slice-held.result.now c.in-If.is c.as_slice-held.ensures),
  if_held c.args.stmt.now.kind c.in-If.test c.in-If.held c.in-If.failed c.as_slice-held.result.now c.in-If.is c.as_slice-held.ensures c.requires,
)

pub lay_stmt-lay_block-requires-in-If : goal.lay_stmt-lay_block-requires-in-If
lay_stmt-lay_block-requires-in-If t c = (
  omega (arith, c.decreases, failed_weight c.args.stmt.now.kind c.in-If.test c.in-If.held c.in-If.failed c.as_slice-failed.result.now c.in-If.is c.as_slice-failed.ensures),
  if_failed c.args.stmt.now.kind c.in-If.test c.in-If.held c.in-If.failed c.as_slice-failed.result.now c.in-If.is c.as_slice-failed.ensures c.requires,
)

pub lay_stmt-lay_block-requires-in-While : goal.lay_stmt-lay_block-requires-in-While
lay_stmt-lay_block-requires-in-While t c = (
  omega (arith, c.decreases, while_weight c.args.stmt.now.kind c.in-While.test c.in-While.block c.as_slice-block.result.now c.in-While.is c.as_slice-block.ensures),
  while_block c.args.stmt.now.kind c.in-While.test c.in-While.block c.as_slice-block.result.now c.in-While.is c.as_slice-block.ensures c.requires,
)

pub lay_block-lay_stmt-requires : goal.lay_block-lay_stmt-requires
lay_block-lay_stmt-requires t c =
    let lt : c.loop-i.i < length c.args.block.now = search rules in
    let same : (get_or c.args.block.now c.loop-i.i c.index-block-i.result).kind ≡ c.index-block-i.result.kind = ap (λ (s : Stmt). s.kind) (sym c.index-block-i.is) in (
      omega (arith, c.decreases, ap weight same, item_weight c.args.block.now c.loop-i.i c.index-block-i.result lt c.index-block-i.is),
      item c.args.block.now c.loop-i.i c.index-block-i.result lt c.index-block-i.is c.requires,
    )
