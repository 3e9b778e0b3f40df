use Rattle.std.proofs.Common.{◌≡◌, ◌^◌, ◌<◌, length, take}
use Rattle.std.specs.List.{sum_by}
use Rattle.ps_elim.proofs.variables.has_few_variables.Given as goal

abbrev pub invariant-loop-row : goal.invariant-loop-row
invariant-loop-row l = record {
  counted : l.count ≡ sum_by (λ r. length r.term.pairs) (take l.row-index l.rows);
  few : l.count < 2 ^ 32;
}
