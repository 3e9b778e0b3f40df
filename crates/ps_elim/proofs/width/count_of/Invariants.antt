use Rattle.std.proofs.Common.{◌≡◌, ◌+◌, ◌≤◌, drop, length}
use Rattle.std.specs.List.{filter}
use Rattle.ps_elim.specs.inner.Weighing.{is_of}
use Rattle.ps_term.specs.Pairs.{coefficient}
use Rattle.ps_elim.proofs.width.count_of.Given as goal

abbrev pub invariant-loop-row : goal.invariant-loop-row
invariant-loop-row l = record {
  counted : l.count + length (filter (λ r. is_of l.sign (coefficient l.variable r.term.pairs)) (drop l.row-index l.rows)) ≡ length (filter (λ r. is_of l.sign (coefficient l.variable r.term.pairs)) l.rows);
  few : l.count ≤ l.row-index;
}
