use Rattle.std.proofs.Common.{◌≡◌, ◌++◌, take}
use Rattle.ps_command.proofs.running.append_copies.Given as goal

abbrev pub invariant-loop-locals : goal.invariant-loop-locals
invariant-loop-locals l = l.list.items ≡ l.fn.list.items ++ take l.locals-index l.more
