use Rattle.std.proofs.Common.{length}
use Rattle.ps_parse.proofs.Checking.{Goes}
use Rattle.ps_parse.proofs.check.first_cause.Given as goal

abbrev pub invariant-checking : goal.invariant-checking
invariant-checking l = Goes l.fn.cursor.words l.fn.cursor.end l.passed l.cursor

abbrev pub decreases-checking : goal.decreases-checking
decreases-checking l = length l.cursor.words
