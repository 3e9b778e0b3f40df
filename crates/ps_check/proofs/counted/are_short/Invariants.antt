use Rattle.std.proofs.Common.{take, Contains}
use Rattle.ps_triple.specs.Short.{AreShort}
use Rattle.ps_triple.specs.declared.entry.Entry.{Entry}
use Rattle.ps_check.proofs.counted.are_short.Given as goal

abbrev pub invariant-loop-entry : goal.invariant-loop-entry
invariant-loop-entry l = (entry : Entry) → Contains (take l.entry-index l.entries) entry → AreShort l.setting entry
