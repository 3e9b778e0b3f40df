use Rattle.std.proofs.Common.{length, subst, List}
use Rattle.ps_compile.specs.Checks.{NoneIsExceeded, edges_checks, inner_checks}
use Rattle.ps_compile.specs.Ends.{IsCompileEnd}
use Rattle.ps_compile.specs.inner.Drafts.{commands_on}
use Rattle.ps_compile.specs.declared.draft.Draft.{Draft}
use Rattle.ps_compile.proofs.Testing.{end_left, end_right}
use Rattle.ps_compile.proofs.limits_edges.finish.Goals as goal

pub returns-in-Err-clause-tested : goal.returns-in-Err-clause-tested
returns-in-Err-clause-tested c =
    end_left (edges_checks c.args.place (length c.args.plan.now.drafts.items) (length c.args.plan.now.owners.items) (commands_on c.args.due.items)) (inner_checks c.args.kind.now) c.in-Err.end
    (subst (λ (ls : List Draft). IsCompileEnd (edges_checks c.args.place (length c.args.plan.now.drafts.items) (length c.args.plan.now.owners.items) (commands_on ls)) c.in-Err.end) c.as_slice.ensures.value c.in-Err.ensures)

pub returns-in-Err-test_inside-clause-tested : goal.returns-in-Err-test_inside-clause-tested
returns-in-Err-test_inside-clause-tested c =
    end_right (edges_checks c.args.place (length c.args.plan.now.drafts.items) (length c.args.plan.now.owners.items) (commands_on c.args.due.items)) (inner_checks c.args.kind.now) c.in-Err-test_inside.end
    (subst (λ (ls : List Draft). NoneIsExceeded (edges_checks c.args.place (length c.args.plan.now.drafts.items) (length c.args.plan.now.owners.items) (commands_on ls))) c.as_slice.ensures.value c.in-Ok.ensures)
    c.in-Err-test_inside.ensures
