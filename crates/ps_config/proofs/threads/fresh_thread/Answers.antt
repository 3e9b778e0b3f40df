use Rattle.std.proofs.Common.{◌≤◌, arith}
use Rattle.ps_config.specs.Configurations.{Configuration}
use Rattle.ps_config.specs.declared.config.TheConstants.{MOST_THREADS}
use Rattle.ps_config.proofs.Bounded.{few_below, below_more}
use Rattle.ps_config.proofs.threads.fresh_thread.Goals as goal

pub overflow_add-thread : goal.overflow_add-thread
overflow_add-thread c =
    let config : Configuration = record { at = c.args.at.now; atoms = c.args.atoms.now } in
    let few : c.loop-thread.thread ≤ MOST_THREADS = few_below config c.requires c.loop-thread.thread c.loop-thread.invariant in
    omega (arith, few)

pub loop-thread-smaller : goal.loop-thread-smaller
loop-thread-smaller c =
    let config : Configuration = record { at = c.args.at.now; atoms = c.args.atoms.now } in
    let few : c.loop-thread.thread ≤ MOST_THREADS = few_below config c.requires c.loop-thread.thread c.loop-thread.invariant in
    omega (arith, few)

pub loop-thread-preserved : goal.loop-thread-preserved
loop-thread-preserved c = below_more (record { at = c.args.at.now; atoms = c.args.atoms.now }) c.loop-thread.thread c.loop-thread.invariant (c.occurs.ensures.0 c.loop-thread-test.true)
