use Rattle.std.proofs.Common.{◌≡◌, ◌++◌, map, take}
use Rattle.ps_demand.specs.Candidates.{entries_of, pairs_of}
use Rattle.ps_demand.proofs.candidates.add_candidates.Given as goal

abbrev pub invariant-loop-entry : goal.invariant-loop-entry
invariant-loop-entry l = pairs_of l.found.items ≡ pairs_of l.initial.found.items ++ map (λ e. (l.atom, e)) (entries_of (take l.entry-index l.known))
