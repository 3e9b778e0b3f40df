use Rattle.std.proofs.Common.{◌∙◌, ◌++◌, true, false, sym, ap, ap₂, map, List}
use Rattle.ps_graph.specs.Paths.{ways}
use Rattle.ps_compile.specs.inner.Drafts.{draft_from}
use Rattle.ps_compile.specs.declared.draft.Draft.{Draft}
use Rattle.ps_compile.specs.declared.route.Route.{Route}
use Rattle.ps_compile.proofs.Routing.{drafts_both}
use Rattle.ps_compile.proofs.drafts.drafts_of_test.Goals as goal

pub returns : goal.returns
returns c =
    c.in_ok-push_drafts-2.ensures
    ∙ ap (λ (x : List Draft). x ++ map (draft_from c.args.a c.args.c) c.in_ok-fails.fails.items)
    (c.in_ok-push_drafts.ensures ∙ ap (λ (x : List Draft). x ++ map (draft_from c.args.a c.args.b) c.in_ok-holds.holds.items) c.new-due.ensures.items)
    ∙ ap₂ (λ (x y : List Route). map (draft_from c.args.a c.args.b) x ++ map (draft_from c.args.a c.args.c) y) c.in_ok-holds.ensures c.in_ok-fails.ensures
    ∙ sym (drafts_both c.args.a c.args.b c.args.c (ways true c.args.test.now) (ways false c.args.test.now))
