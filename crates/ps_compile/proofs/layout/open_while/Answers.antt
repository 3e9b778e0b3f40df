use Rattle.ps_compile.proofs.Blocks.{opens_while, while_ends}
use Rattle.ps_compile.proofs.layout.open_while.Goals as goal

pub returns-in-Ok-finish : goal.returns-in-Ok-finish
returns-in-Ok-finish c =
    opens_while 0 c.args.plan.now c.start.new.plan c.finish.new.plan c.args.place c.args.kind.now c.args.test.now c.args.block.now c.args.a c.args.b
    c.in-Ok-start.first c.in-Ok-drafts_of_test.due.items c.in-Ok.ensures c.in-Ok-start.ensures.at c.in-Ok-start.ensures.owners c.in-Ok-start.ensures.drafts c.in-Ok-drafts_of_test.ensures
    c.in-Ok-finish.ensures.tested c.in-Ok-finish.ensures.added c.in-Ok-finish.ensures.owners

pub returns-in-Err-finish : goal.returns-in-Err-finish
returns-in-Err-finish c =
    while_ends 0 c.args.plan.now c.start.new.plan c.args.place c.args.kind.now c.args.test.now c.args.block.now c.args.a c.args.b
    c.in-Ok-start.first c.in-Ok-drafts_of_test.due.items c.in-Err-finish.end c.in-Ok.ensures c.in-Ok-start.ensures.at c.in-Ok-start.ensures.owners c.in-Ok-start.ensures.drafts c.in-Ok-drafts_of_test.ensures
    c.in-Err-finish.ensures.tested
