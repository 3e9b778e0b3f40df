use Rattle.std.proofs.Common.{◌≡◌, ◌∙◌, ap, subst, map, List, IfOk}
use Rattle.ps_compile.proofs.Routing.{guarded_are}
use Rattle.ps_compile.proofs.routes.cond_routes.Goals as goal
use Rattle.ps_compile.specs.declared.route.Route.{Route}
use Rattle.ps_compile.specs.inner.Routes.{guarded_route}

pub returns-in-Ok : goal.returns-in-Ok
returns-in-Ok c =
    subst (λ (rs : List Route). IfOk c.guarded_routes.result (λ v. v.items ≡ rs))
    (ap (map (guarded_route c.args.fails)) c.in-Ok.ensures.is ∙ guarded_are c.args.holds c.args.fails c.args.cond.now) c.guarded_routes.ensures
