use Rattle.ps_elim.proofs.Widths.{wide_first}
use Rattle.ps_elim.proofs.width.first_width.Goals as goal

-- there is a first variable
pub returns-in-Some : goal.returns-in-Some
returns-in-Some c = λ more.
    wide_first c.args.rows.now c.args.order.now c.in-Some.variable.now c.width_of_rows.result c.requires.order c.in-Some.ensures.value c.width_of_rows.ensures more
