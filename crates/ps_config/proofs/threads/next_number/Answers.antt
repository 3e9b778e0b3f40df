use Rattle.std.proofs.Common.{ℕ, List, subst}
use Rattle.std.proofs.lemmas.List.{take_all}
use Rattle.ps_config.specs.Next.{IsNextThread}
use Rattle.ps_config.proofs.Nexts.{next_number_step}
use Rattle.ps_config.proofs.threads.next_number.Goals as goal

pub loop-number-preserved : goal.loop-number-preserved
loop-number-preserved c = rw c.better-best.ensures (next_number_step c.args.numbers.now c.loop-number.number-index c.args.from 0 c.loop-number.best c.loop-number-test.true c.loop-number.invariant)

pub returns : goal.returns
returns c = subst (λ (xs : List ℕ). IsNextThread xs c.args.from c.loop-number.best) (take_all c.loop-number.number-index c.args.numbers.now c.loop-number-test.false) c.loop-number.invariant
