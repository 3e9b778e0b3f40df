use Rattle.std.proofs.Common.{◌≡◌, map, take}
use Rattle.ps_atom.specs.declared.share.Share.{Share}
use Rattle.ps_atom.proofs.canonical.threads_of.Given as goal

abbrev pub invariant-loop-share : goal.invariant-loop-share
invariant-loop-share l = l.threads ≡ map (λ (share : Share). share.thread) (take l.share-index l.shares)
