use Rattle.std.proofs.Common.{◌≡◌, ◌++◌, drop, map}
use Rattle.ps_saturate.specs.inner.Arranging.{led_by}
use Rattle.ps_saturate.proofs.arranging.push_led_by.Given as goal

abbrev pub invariant-loop-list : goal.invariant-loop-list
invariant-loop-list l =
    map (λ list. list.items) l.longer.items ++ led_by l.thread (map (λ list. list.items) (drop l.list-index l.lists))
    ≡ map (λ list. list.items) l.initial.longer.items ++ led_by l.thread (map (λ list. list.items) l.lists)
