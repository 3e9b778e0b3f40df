use Rattle.std.proofs.Common.{◌≡◌, ◌≤◌, ◌-◌, ◌^◌, ◌++◌, drop, length}
use Rattle.std.specs.List.{filter}
use Rattle.ps_demand.specs.Candidates.{entries_of, is_for}
use Rattle.ps_demand.proofs.candidates.add_triples.Given as goal

-- what is there, with what is left, is all
abbrev pub invariant-loop-n : goal.invariant-loop-n
invariant-loop-n g l = record {
  all : entries_of l.known.items ++ filter (is_for l.command l.post) (drop l.from (g.B.Shown.entries l.basis)) ≡ entries_of l.initial.known.items ++ filter (is_for l.command l.post) (g.B.Shown.entries l.basis);
  within : l.from ≤ length (g.B.Shown.entries l.basis);
}

abbrev pub decreases-loop-n : goal.decreases-loop-n
decreases-loop-n g l = 2 ^ 32 - l.from
