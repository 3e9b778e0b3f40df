use Rattle.std.proofs.Common.{take}
use Rattle.ps_config.specs.declared.config.TheConstants.{MOST_ATOMS}
use Rattle.ps_demand.specs.Pools.{lists_of}
use Rattle.ps_step.specs.inner.Sets.{HasLength}
use Rattle.ps_step.proofs.Over.{AreFine}
use Rattle.ps_step.proofs.sizes.first_atoms_over.Given as goal

abbrev pub invariant-loop-set : goal.invariant-loop-set
invariant-loop-set l = AreFine MOST_ATOMS HasLength (lists_of (take l.set-index l.sets))
