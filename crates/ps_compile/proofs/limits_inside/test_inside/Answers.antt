use Rattle.std.proofs.Common.{subst, List}
use Rattle.ps_compile.specs.Checks.{Check}
use Rattle.ps_compile.specs.inner.Drafts.{Tested}
use Rattle.ps_compile.proofs.Inside.{inner_atomic}
use Rattle.ps_compile.proofs.limits_inside.test_inside.Goals as goal

pub returns-in-Atomic : goal.returns-in-Atomic
returns-in-Atomic c = subst (λ (cs : List Check). Tested c.test_within.result cs) (inner_atomic c.args.kind.now c.in-Atomic.block c.as_slice.result.now c.in-Atomic.is c.as_slice.ensures) c.test_within.ensures
