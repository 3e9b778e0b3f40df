-- What a body is laid out as.
use Rattle.std.specs.Prelude.{◌≡◌, List, map}
use Rattle.ps_compile.specs.Checks.{NoneIsExceeded, checks}
use Rattle.ps_compile.specs.Compiled.{one_owner}
use Rattle.ps_compile.specs.Layout.{all_planned, body_sites, body_size}
use Rattle.ps_compile.specs.declared.plan.Plan.{Plan}
use Rattle.ps_compile.specs.inner.Drafts.{draft_of}
use Rattle.ps_tree.specs.declared.stmt.Stmt.{Stmt}

-- the whole body, with no limit exceeded
pub record IsPlanOf (body : List Stmt) (plan : Plan) : Type 0 where
  pub free : NoneIsExceeded (checks 0 (body_sites body 0 2))
  pub drafts : plan.drafts.items ≡ map draft_of (all_planned (body_sites body 0 2))
  pub owners : plan.owners.items ≡ one_owner (body_size body)
