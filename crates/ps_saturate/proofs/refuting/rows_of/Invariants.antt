use Rattle.std.proofs.Common.{◌≡◌, take}
use Rattle.ps_saturate.specs.inner.Trials.{pointed_to, rows_of}
use Rattle.ps_saturate.proofs.refuting.rows_of.Given as goal

abbrev pub invariant-loop-choice : goal.invariant-loop-choice
invariant-loop-choice l = l.rows.items ≡ rows_of (pointed_to (take l.choice-index l.set))
