use Rattle.std.proofs.Common.{◌≡◌, ◌++◌, map}
use Rattle.ps_interp.specs.inner.Keys.{entry_of}
use Rattle.ps_interp.proofs.listing.entries_of.Given as goal

abbrev pub invariant-loop-key : goal.invariant-loop-key
invariant-loop-key l = l.entries.items ++ map entry_of l.key-iterator ≡ map entry_of l.fn.keys.keys
