use Rattle.std.proofs.Common.{◌≡◌, ◌++◌, map, take}
use Rattle.ps_compile.specs.inner.Routes.{join}
use Rattle.ps_compile.proofs.routes.append_after.Given as goal

abbrev pub invariant-loop-q : goal.invariant-loop-q
invariant-loop-q l = l.all.items ≡ l.initial.all.items ++ map (join l.p) (take l.q-index l.qs)
