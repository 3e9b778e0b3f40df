use Rattle.ps_saturate.specs.inner.Trials.{AreChoices}
use Rattle.ps_saturate.proofs.choosing.choices.Given as goal

abbrev pub invariant-loop-number : goal.invariant-loop-number
invariant-loop-number l = AreChoices l.setting l.predicates l.number l.post l.list.items
