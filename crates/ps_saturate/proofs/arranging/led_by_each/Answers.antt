use Rattle.std.proofs.Common.{map}
use Rattle.ps_saturate.proofs.Leading.{each_step}
use Rattle.ps_saturate.specs.inner.Arranging.{led_by_each}
use Rattle.ps_saturate.proofs.arranging.led_by_each.Goals as goal

pub loop-thread-preserved : goal.loop-thread-preserved
loop-thread-preserved c =
    each_step (map (λ list. list.items) c.args.lists.now) c.loop-thread.thread c.args.threads (map (λ list. list.items) c.loop-thread.longer.items) (map (λ list. list.items) c.push_led_by.new.longer.items)
    (led_by_each 0 c.args.threads (map (λ list. list.items) c.args.lists.now)) c.loop-thread-test.true c.in_ok-push_led_by.ensures c.loop-thread.invariant
