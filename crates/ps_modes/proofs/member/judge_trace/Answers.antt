-- The text spells the trace that was read, or has this fault first.
use Rattle.std.proofs.lemmas.Result.{IfOk-weaker}
use Rattle.ps_trace.proofs.Results.{both_ok}
use Rattle.ps_modes.specs.Member.{NotATrace, Traces}
use Rattle.ps_modes.proofs.member.judge_trace.Goals as goal

pub returns-in-Ok : goal.returns-in-Ok
returns-in-Ok c =
    IfOk-weaker c.judge_member.result _ _
    (λ answer owed. Traces c.in-Ok.trace (record { fits = c.in-Ok.ensures.found.0; spelled = c.in-Ok.ensures.found.1 }) owed)
    c.judge_member.ensures

pub returns-in-Err-Fault : goal.returns-in-Err-Fault
returns-in-Err-Fault c =
    let first = rw c.in-Err-Fault.field-0-is at c.in-Err-Fault.ensures.exact in
    both_ok c.fault_answer.result (λ answer s t. NotATrace c.in-Err-Fault.fault first s t) c.fault_answer.ensures.status c.fault_answer.ensures.text
