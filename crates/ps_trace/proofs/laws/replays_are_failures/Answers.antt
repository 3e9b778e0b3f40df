use Rattle.ps_trace.proofs.Reaching.{reaches_exactly}
use Rattle.ps_trace.proofs.laws.replays_are_failures.Goals as goal

pub returns : goal.returns
returns c = λ p graph is w. reaches_exactly p graph is w
