use Rattle.std.proofs.Common.{◌≡◌, ◌++◌, drop}
use Rattle.ps_compile.specs.inner.Routes.{after_all}
use Rattle.ps_compile.proofs.routes.followed_routes.Given as goal

abbrev pub invariant-loop-p : goal.invariant-loop-p
invariant-loop-p l = l.all.items ++ after_all (drop l.p-index l.ps) l.qs ≡ after_all l.ps l.qs
