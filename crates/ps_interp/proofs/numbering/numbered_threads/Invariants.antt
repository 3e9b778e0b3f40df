use Rattle.std.proofs.Common.{◌≡◌, ◌==◌, ◌∷◌, not, take}
use Rattle.std.specs.Prelude.{filter}
use Rattle.ps_interp.proofs.numbering.numbered_threads.Given as goal

abbrev pub invariant-loop-slot : goal.invariant-loop-slot
invariant-loop-slot l = l.names.items ≡ l.thread ∷ filter (λ t. not (t == l.thread)) (take l.slot-index l.slots)
