use Rattle.std.proofs.Common.{length, drop}
use Rattle.ps_compile.specs.Layout.{inner_of, sites_of}
use Rattle.ps_compile.proofs.Testing.{Laying}
use Rattle.ps_compile.specs.inner.Weights.{weight, weight_of}
use Rattle.ps_compile.proofs.layout.+layout.Given as goal

abbrev pub decreases-lay_stmt : goal.decreases-lay_stmt
decreases-lay_stmt l = weight l.stmt.now.kind

abbrev pub decreases-lay_block : goal.decreases-lay_block
decreases-lay_block l = weight_of l.block.now

abbrev pub invariant-lay_block-loop-i : goal.invariant-lay_block-loop-i
invariant-lay_block-loop-i l =
    Laying 0 l.initial.plan l.plan (sites_of (drop l.i l.block) l.from l.z (length l.plan.owners.items))
    (sites_of l.block l.initial.a l.z (length l.initial.plan.owners.items)) (inner_of (drop l.i l.block)) (inner_of l.block)
