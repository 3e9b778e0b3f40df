use Rattle.ps_trace.proofs.Meeting.{rows_say_runs}
use Rattle.ps_trace.proofs.laws.rows_say_runs.Goals as goal

pub returns : goal.returns
returns c = λ graph letters. rows_say_runs graph letters
