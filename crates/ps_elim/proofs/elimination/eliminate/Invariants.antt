use Rattle.std.proofs.Common.{◌≡◌, drop, length}
use Rattle.ps_elim.specs.Stages.{variables}
use Rattle.ps_elim.proofs.Eliminating.{Eliminating}
use Rattle.ps_elim.proofs.elimination.eliminate.Given as goal

abbrev pub invariant-loop-number : goal.invariant-loop-number
invariant-loop-number l = record {
  state : Eliminating l.rows l.set.items l.stages.items (drop l.number (variables l.rows));
  counted : l.number ≡ length l.stages.items;
}

abbrev pub ghost-next_set : goal.ghost-next_set
ghost-next_set a = a._given.now
