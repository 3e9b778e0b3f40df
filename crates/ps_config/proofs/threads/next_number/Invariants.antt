use Rattle.std.proofs.Common.{take}
use Rattle.ps_config.specs.Next.{IsNextThread}
use Rattle.ps_config.proofs.threads.next_number.Given as goal

abbrev pub invariant-loop-number : goal.invariant-loop-number
invariant-loop-number l = IsNextThread (take l.number-index l.numbers) l.from l.best
