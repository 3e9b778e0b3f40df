use Rattle.ps_soundness.proofs.Back.{closed_proves}
use Rattle.ps_soundness.proofs.laws.closed_coverings_prove_error_traces.Goals as goal

pub returns : goal.returns
returns c = λ graph entries configurations tied inside closed letters trace.
    closed_proves graph entries configurations tied inside closed graph.stays graph.entries_own letters trace
