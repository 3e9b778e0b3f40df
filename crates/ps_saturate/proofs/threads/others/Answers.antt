use Rattle.ps_saturate.proofs.Leading.{thread_step}
use Rattle.ps_saturate.specs.Patterns.{threads_from}
use Rattle.ps_saturate.proofs.threads.others.Goals as goal

pub loop-before-preserved : goal.loop-before-preserved
loop-before-preserved c =
    thread_step c.loop-before.before c.args.count c.loop-before.threads.items c.push.new.self.items (threads_from 1 c.args.count) c.loop-before-test.true c.in_ok-push.ensures.items c.loop-before.invariant
