use Rattle.std.proofs.Common.{◌≡◌, ◌++◌, map, drop}
use Rattle.ps_atom.specs.declared.share.Share.{Share}
use Rattle.ps_atom.specs.inner.Slots.{in_slots}
use Rattle.ps_atom.proofs.slots.push_shares.Given as goal

abbrev pub invariant-loop-share : goal.invariant-loop-share
invariant-loop-share l = (l.slot ≡ l.share-index) × (l.list.items ++ in_slots l.slot (map (λ (share : Share). share.pairs.items) (drop l.share-index l.shares)) ≡ l.initial.list.items ++ in_slots 0 (map (λ (share : Share). share.pairs.items) l.shares))
