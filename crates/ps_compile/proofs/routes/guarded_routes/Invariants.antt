use Rattle.std.proofs.Common.{◌≡◌, ◌++◌, map}
use Rattle.ps_compile.specs.inner.Routes.{guarded_route}
use Rattle.ps_compile.proofs.routes.guarded_routes.Given as goal

abbrev pub invariant-loop-rows : goal.invariant-loop-rows
invariant-loop-rows l = l.routes.items ++ map (guarded_route l.fails) l.rows-iterator.rest.items ≡ map (guarded_route l.fails) l.fn.alternatives.items
