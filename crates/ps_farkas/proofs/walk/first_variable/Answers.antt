use Rattle.std.proofs.Common.{◌≢◌, pos, IfSome, None, sym, subst, arith}
use Rattle.ps_term.specs.declared.row.Row.{Row}
use Rattle.ps_term.specs.declared.var.Var.{Var}
use Rattle.ps_farkas.proofs.Walking.{IsNext-step}
use Rattle.ps_farkas.proofs.walk.first_variable.Goals as goal

pub loop-i-preserved : goal.loop-i-preserved
loop-i-preserved c =
    IsNext-step None c.args.rows.now c.loop-i.i c.row.result.now c.loop-i.first c.next_after.result c.lesser-first.result c.loop-i.invariant (omega arith) c.row.ensures c.next_after.ensures.skipped c.next_after.ensures.stands c.lesser-first.ensures
