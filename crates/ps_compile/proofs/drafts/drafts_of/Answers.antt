use Rattle.std.proofs.Common.{◌∙◌, ◌++◌, sym, ap₂, map, List}
use Rattle.ps_graph.specs.Paths.{paths}
use Rattle.ps_compile.specs.inner.Drafts.{draft_from}
use Rattle.ps_compile.specs.declared.draft.Draft.{Draft}
use Rattle.ps_compile.specs.declared.route.Route.{Route}
use Rattle.ps_compile.proofs.Routing.{drafts_are}
use Rattle.ps_compile.proofs.drafts.drafts_of.Goals as goal

pub returns : goal.returns
returns c =
    c.in_ok-push_drafts.ensures ∙ ap₂ (λ (x : List Draft) (y : List Route). x ++ map (draft_from c.args.a c.args.b) y) c.new-due.ensures.items c.in_ok-routes.ensures
    ∙ sym (drafts_are c.args.a c.args.b (paths c.args.kind.now))
