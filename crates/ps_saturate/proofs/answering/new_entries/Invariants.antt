use Rattle.std.proofs.Common.{◌≡◌, ◌++◌}
use Rattle.std.specs.Vec.Iter.{into_iter_items}
use Rattle.ps_saturate.specs.inner.Trials.{new_entries}
use Rattle.ps_saturate.proofs.answering.new_entries.Given as goal

abbrev pub invariant-loop-triple : goal.invariant-loop-triple
invariant-loop-triple l = l.entries.items ++ new_entries l.old (into_iter_items l.triple-iterator) ≡ new_entries l.old l.fn.found.items
