use Rattle.std.proofs.Common.{take, Contains}
use Rattle.ps_triple.specs.Faults.{EntryHolds}
use Rattle.ps_triple.specs.declared.entry.Entry.{Entry}
use Rattle.ps_check.proofs.holding.do_all_hold.Given as goal

abbrev pub invariant-loop-entry : goal.invariant-loop-entry
invariant-loop-entry l = (entry : Entry) → Contains (take l.entry-index l.entries) entry → EntryHolds l.setting l.table entry
