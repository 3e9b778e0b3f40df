use Rattle.std.proofs.Common.{◌≡◌, take}
use Rattle.std.specs.List.{filter}
use Rattle.ps_basis.specs.inner.Index.{is_below}
use Rattle.ps_basis.proofs.index.Index.front.Given as goal

abbrev pub invariant-loop-place : goal.invariant-loop-place
invariant-loop-place l = l.places.items ≡ filter (is_below l.count) (take l.place-index l.self.places.items)
