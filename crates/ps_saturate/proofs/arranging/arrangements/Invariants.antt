use Rattle.std.proofs.Common.{◌≡◌, map}
use Rattle.ps_saturate.specs.inner.Arranging.{arrangements}
use Rattle.ps_saturate.proofs.arranging.arrangements.Given as goal

abbrev pub invariant-loop-slot : goal.invariant-loop-slot
invariant-loop-slot l = map (λ list. list.items) l.lists.items ≡ arrangements l.threads l._slot
