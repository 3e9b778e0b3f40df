use Rattle.std.proofs.Common.{◌≡◌, ◌-◌, ◌++◌, map}
use Rattle.ps_saturate.specs.inner.Arranging.{led_by_each}
use Rattle.ps_saturate.proofs.arranging.led_by_each.Given as goal

abbrev pub invariant-loop-thread : goal.invariant-loop-thread
invariant-loop-thread l =
    map (λ list. list.items) l.longer.items ++ led_by_each l.thread (l.threads - l.thread) (map (λ list. list.items) l.lists)
    ≡ led_by_each 0 l.threads (map (λ list. list.items) l.lists)
