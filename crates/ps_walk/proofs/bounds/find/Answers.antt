use Rattle.ps_walk.specs.inner.Findings.{found_values}
use Rattle.ps_walk.proofs.RowBounds.{finding_by}
use Rattle.ps_walk.proofs.bounds.find.Goals as goal

pub returns-in-Some : goal.returns-in-Some
returns-in-Some c =
    finding_by (found_values c.args.found.now) c.args.variable c.args.rows.now c.in-Some.bounds c.nearest.result c.in-Some.ensures.fits c.in-Some.ensures.bounds c.nearest.ensures
