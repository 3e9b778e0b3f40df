use Rattle.std.proofs.Common.{◌≡◌, take}
use Rattle.ps_demand.specs.Numbered.{named}
use Rattle.ps_step.proofs.found.atoms_named.Given as goal

abbrev pub invariant-loop-place : goal.invariant-loop-place
invariant-loop-place l = l.atoms.items ≡ named l.pool (take l.place-index l.places)
