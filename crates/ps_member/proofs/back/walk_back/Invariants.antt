use Rattle.std.proofs.Common.{◌≡◌, ◌≤◌, [], ◌∷◌, drop, length, map}
use Rattle.std.specs.Prelude.{reverse}
use Rattle.ps_member.specs.inner.Walks.{IsWalkFrom, letter_of}
use Rattle.ps_soundness.specs.Traces.{trace_of}
use Rattle.ps_trace.specs.Traces.{pairs_in}
use Rattle.ps_triple.specs.Entries.{false_atom}
use Rattle.ps_member.proofs.back.walk_back.Given as goal

abbrev pub invariant-loop-left : goal.invariant-loop-left
invariant-loop-left g l = record {
  within : l.left ≤ length l.letters;
  letters : map letter_of l.cuts.items ≡ reverse (trace_of l.graph.edges (pairs_in (drop l.left l.letters)));
  walk : IsWalkFrom (g.B.Shown.entries l.basis) (false_atom ∷ []) l.cuts.items l.atoms.items;
}

abbrev pub decreases-loop-left : goal.decreases-loop-left
decreases-loop-left g l = l.left
