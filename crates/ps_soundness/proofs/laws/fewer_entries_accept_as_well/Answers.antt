use Rattle.ps_soundness.proofs.Safe.{accepting_less}
use Rattle.ps_soundness.proofs.laws.fewer_entries_accept_as_well.Goals as goal

pub returns : goal.returns
returns c = accepting_less
