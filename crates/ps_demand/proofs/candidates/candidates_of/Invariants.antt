use Rattle.std.proofs.Common.{◌≡◌, take}
use Rattle.std.specs.Prelude.{IfSome}
use Rattle.std.specs.List.{filter}
use Rattle.ps_demand.specs.Candidates.{candidates, entries_of, is_for, pairs_of}
use Rattle.ps_demand.proofs.candidates.candidates_of.Given as goal

abbrev pub invariant-loop-atom : goal.invariant-loop-atom
invariant-loop-atom g l = record {
  found : pairs_of l.found.items ≡ candidates (g.B.Shown.entries l.basis) (take l.atom-index l.atoms) l.command;
  known : IfSome l.predicate (λ p. entries_of l.known.items ≡ filter (is_for l.command p) (g.B.Shown.entries l.basis));
}
