use Rattle.std.proofs.Common.{subst, List}
use Rattle.ps_compile.specs.Checks.{Check}
use Rattle.ps_compile.specs.inner.Drafts.{Tested}
use Rattle.ps_compile.proofs.Inside.{paths_atomic}
use Rattle.ps_compile.proofs.limits_inside.test_paths.Goals as goal

pub returns-in-Atomic : goal.returns-in-Atomic
returns-in-Atomic c = subst (λ (cs : List Check). Tested c.test_block.result cs) (paths_atomic c.args.place c.args.kind.now c.in-Atomic.block c.as_slice.result.now c.in-Atomic.is c.as_slice.ensures) c.test_block.ensures
