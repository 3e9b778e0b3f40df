use Rattle.std.proofs.Common.{◌≡◌, drop}
use Rattle.ps_atom_text.specs.inner.Met.{met_with_all}
use Rattle.ps_atom_text.proofs.met.meet_all.Given as goal

abbrev pub invariant-loop-thread : goal.invariant-loop-thread
invariant-loop-thread l = met_with_all l.met.items (drop l.thread-index l.threads) ≡ met_with_all l.fn.met.items l.threads
