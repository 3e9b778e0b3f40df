use Rattle.std.proofs.Common.{◌≡◌, drop}
use Rattle.ps_member.specs.inner.Known.{are_among}
use Rattle.ps_member.proofs.known.are_among.Given as goal

abbrev pub invariant-loop-atom : goal.invariant-loop-atom
invariant-loop-atom l = are_among l.known (drop l.atom-index l.atoms) ≡ are_among l.known l.atoms
