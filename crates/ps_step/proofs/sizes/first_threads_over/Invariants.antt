use Rattle.std.proofs.Common.{take}
use Rattle.ps_config.specs.declared.config.TheConstants.{MOST_THREADS}
use Rattle.ps_demand.specs.Pools.{lists_of}
use Rattle.ps_step.specs.inner.Sets.{HasThreadsWith}
use Rattle.ps_step.proofs.Over.{AreFine}
use Rattle.ps_step.proofs.sizes.first_threads_over.Given as goal

abbrev pub invariant-loop-set : goal.invariant-loop-set
invariant-loop-set l = AreFine MOST_THREADS (HasThreadsWith l.at) (lists_of (take l.set-index l.sets))
