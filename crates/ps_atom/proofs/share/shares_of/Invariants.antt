use Rattle.std.proofs.Common.{◌≡◌, map, take, All}
use Rattle.ps_atom.specs.declared.share.Share.{Share}
use Rattle.ps_atom.specs.inner.Shares.{IsShare}
use Rattle.ps_atom.proofs.share.shares_of.Given as goal

abbrev pub invariant-loop-thread : goal.invariant-loop-thread
invariant-loop-thread l = All (IsShare l.pairs) l.shares.items × (map (λ (share : Share). share.thread) l.shares.items ≡ take l.thread-index l.threads)
