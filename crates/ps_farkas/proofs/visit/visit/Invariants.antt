use Rattle.std.proofs.Common.{drop, take, Some}
use Rattle.ps_term.specs.Pairs.{coefficient}
use Rattle.ps_farkas.specs.inner.Walk.{IsNextVariable}
use Rattle.ps_farkas.proofs.Weighing.{Weighed}
use Rattle.ps_farkas.proofs.visit.visit.Given as goal

abbrev pub invariant-loop-i : goal.invariant-loop-i
invariant-loop-i l = record {
  sum : Weighed (λ t. coefficient l.variable t.pairs) l.rows l.lambda l.sum (drop l.i l.rows) (drop l.i l.lambda);
  next : IsNextVariable (Some l.variable) (take l.i l.rows) l.next;
}
