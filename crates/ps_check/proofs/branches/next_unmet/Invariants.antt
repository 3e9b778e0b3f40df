use Rattle.std.proofs.Common.{◌≡◌, ◌<◌, ◌≤◌, ℕ, List, Some}
use Rattle.std.specs.Prelude.{slice_get}
use Rattle.ps_atom.specs.declared.atom.Atom.{Atom}
use Rattle.ps_demand.specs.Hitting.{MeetsSet}
use Rattle.ps_demand.specs.Pools.{lists_of}
use Rattle.ps_check.proofs.branches.next_unmet.Given as goal

abbrev pub invariant-loop-place : goal.invariant-loop-place
invariant-loop-place l = (k : ℕ) (set : List Atom) → l.from ≤ k → k < l.place → slice_get (lists_of l.sets) k ≡ Some set → MeetsSet l.atoms set
