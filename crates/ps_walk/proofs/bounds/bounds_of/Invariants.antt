use Rattle.std.proofs.Common.{take}
use Rattle.ps_walk.specs.Bounds.{StageFits}
use Rattle.ps_walk.specs.inner.Findings.{AreBounds, found_values}
use Rattle.ps_walk.proofs.bounds.bounds_of.Given as goal

abbrev pub invariant-loop-row : goal.invariant-loop-row
invariant-loop-row l = record {
  fits : StageFits (found_values l.found) l.variable (take l.row-index l.rows);
  bounds : AreBounds (found_values l.found) l.variable (take l.row-index l.rows) l.bounds;
}
