use Rattle.ps_soundness.proofs.Safe.{accepted_text, accepted_traces}
use Rattle.ps_soundness.proofs.laws.accepted_proofs_are_right.Goals as goal

pub returns-clause-traces : goal.returns-clause-traces
returns-clause-traces c = accepted_traces

pub returns-clause-text : goal.returns-clause-text
returns-clause-text c = accepted_text
