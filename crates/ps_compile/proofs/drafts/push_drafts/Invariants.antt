use Rattle.std.proofs.Common.{◌≡◌, ◌++◌, map}
use Rattle.ps_compile.specs.inner.Drafts.{draft_from}
use Rattle.ps_compile.proofs.drafts.push_drafts.Given as goal

abbrev pub invariant-loop-route : goal.invariant-loop-route
invariant-loop-route l = l.due.items ++ map (draft_from l.a l.goal) l.route-iterator.rest.items ≡ l.initial.due.items ++ map (draft_from l.a l.goal) l.fn.routes.items
