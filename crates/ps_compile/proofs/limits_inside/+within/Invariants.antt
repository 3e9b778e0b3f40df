use Rattle.std.proofs.Common.{drop}
use Rattle.ps_compile.specs.inner.Inside.{inside_of}
use Rattle.ps_compile.proofs.Testing.{StillTests}
use Rattle.ps_compile.proofs.limits_inside.+within.Given as goal

abbrev pub invariant-test_within-loop-stmt : goal.invariant-test_within-loop-stmt
invariant-test_within-loop-stmt l = StillTests (inside_of (drop l.stmt-index l.block)) (inside_of l.block)
