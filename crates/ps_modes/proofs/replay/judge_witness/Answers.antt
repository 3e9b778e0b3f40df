-- The text spells the witness that was read, or has this fault first.
use Rattle.std.proofs.lemmas.Result.{IfOk-weaker}
use Rattle.ps_trace.proofs.Results.{both_ok}
use Rattle.ps_modes.specs.Replay.{NotOfForm, Witnesses}
use Rattle.ps_modes.proofs.replay.judge_witness.Goals as goal

pub returns-in-Ok : goal.returns-in-Ok
returns-in-Ok c = λ program is.
    IfOk-weaker c.judge_replay.result _ _
    (λ answer owed. Witnesses c.in-Ok.witness (record { fits = c.in-Ok.ensures.found.0; spelled = c.in-Ok.ensures.found.1 }) owed)
    (c.judge_replay.ensures program is)

pub returns-in-Err-Fault : goal.returns-in-Err-Fault
returns-in-Err-Fault c = λ program is.
    let first = rw c.in-Err-Fault.field-0-is at c.in-Err-Fault.ensures.exact in
    both_ok c.fault_answer.result (λ answer s t. NotOfForm c.in-Err-Fault.fault first s t) c.fault_answer.ensures.status c.fault_answer.ensures.text
