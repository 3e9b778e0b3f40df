use Rattle.ps_saturate.proofs.Finding.{IsBelow}
use Rattle.ps_saturate.specs.inner.Trials.{atoms_of}
use Rattle.ps_saturate.proofs.answering.found_by.Given as goal

abbrev pub invariant-loop-size : goal.invariant-loop-size
invariant-loop-size l = IsBelow l.trial (atoms_of l.members) l.size l.found.items
