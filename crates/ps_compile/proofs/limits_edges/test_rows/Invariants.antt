use Rattle.std.proofs.Common.{drop}
use Rattle.ps_compile.specs.Checks.{rows_checks}
use Rattle.ps_compile.specs.inner.Drafts.{commands_on}
use Rattle.ps_compile.proofs.Testing.{StillTests}
use Rattle.ps_compile.proofs.limits_edges.test_rows.Given as goal

abbrev pub invariant-loop-draft : goal.invariant-loop-draft
invariant-loop-draft l = StillTests (rows_checks l.place (commands_on (drop l.draft-index l.due))) (rows_checks l.place (commands_on l.due))
