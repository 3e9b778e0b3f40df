use Rattle.ps_triple.proofs.Examples.{counter_entries_hold}
use Rattle.ps_triple.proofs.worked.entries_of_the_counter_hold.Goals as goal

pub returns : goal.returns
returns c = counter_entries_hold
