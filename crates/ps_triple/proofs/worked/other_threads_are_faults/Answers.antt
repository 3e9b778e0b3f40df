use Rattle.ps_triple.proofs.Examples.{free_thread, mover_is_not_free, slots_are_few}
use Rattle.ps_triple.proofs.worked.other_threads_are_faults.Goals as goal

pub returns-clause-free : goal.returns-clause-free
returns-clause-free c = free_thread

pub returns-clause-mover : goal.returns-clause-mover
returns-clause-mover c = mover_is_not_free

pub returns-clause-slots : goal.returns-clause-slots
returns-clause-slots c = slots_are_few
