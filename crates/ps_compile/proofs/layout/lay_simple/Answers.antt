use Rattle.std.proofs.Common.{length, refl, sym, append-nil}
use Rattle.ps_graph.specs.Follows.{going_to}
use Rattle.ps_compile.specs.Layout.{own_site}
use Rattle.ps_graph.specs.Paths.{paths}
use Rattle.ps_compile.proofs.Testing.{site_grows, site_finishes}
use Rattle.ps_compile.proofs.layout.lay_simple.Goals as goal

pub returns-in-Ok-finish : goal.returns-in-Ok-finish
returns-in-Ok-finish c =
    site_grows 0 c.args.plan.now c.args.plan.now c.finish.new.plan (own_site c.args.place c.args.kind.now c.args.a (length c.args.plan.now.owners.items) (going_to c.args.b (paths c.args.kind.now)))
    0 c.in-Ok-drafts_of.due.items c.in-Ok.ensures refl (sym (append-nil c.args.plan.now.owners.items)) refl c.in-Ok-drafts_of.ensures
    c.in-Ok-finish.ensures.tested c.in-Ok-finish.ensures.added c.in-Ok-finish.ensures.owners

pub returns-in-Err-finish : goal.returns-in-Err-finish
returns-in-Err-finish c =
    site_finishes c.args.plan.now c.args.plan.now (own_site c.args.place c.args.kind.now c.args.a (length c.args.plan.now.owners.items) (going_to c.args.b (paths c.args.kind.now)))
    c.in-Ok-drafts_of.due.items c.in-Err-finish.end c.in-Ok.ensures refl refl c.in-Ok-drafts_of.ensures c.in-Err-finish.ensures.tested
