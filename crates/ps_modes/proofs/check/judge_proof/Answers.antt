-- The text spells the proof that was read, or has this fault first.
use Rattle.std.proofs.lemmas.Result.{IfOk-weaker}
use Rattle.ps_trace.proofs.Results.{both_ok}
use Rattle.ps_modes.specs.Check.{NotOfForm, Proves}
use Rattle.ps_modes.proofs.check.judge_proof.Goals as goal

pub judge_check-requires-clause-predicates : goal.judge_check-requires-clause-predicates
judge_check-requires-clause-predicates c = c.in-Ok.ensures.found.0.few_predicates

pub judge_check-requires-clause-entries : goal.judge_check-requires-clause-entries
judge_check-requires-clause-entries c = c.in-Ok.ensures.found.0.few_entries

pub returns-in-Ok : goal.returns-in-Ok
returns-in-Ok c = λ program.
    IfOk-weaker c.judge_check.result _ _
    (λ answer owed. Proves c.in-Ok.proof (record { fits = c.in-Ok.ensures.found.0; spelled = c.in-Ok.ensures.found.1 }) owed)
    c.judge_check.ensures

pub returns-in-Err-Fault : goal.returns-in-Err-Fault
returns-in-Err-Fault c = λ program.
    let first = rw c.in-Err-Fault.field-0-is at c.in-Err-Fault.ensures.exact in
    both_ok c.fault_answer.result (λ answer s t. NotOfForm c.in-Err-Fault.fault first s t) c.fault_answer.ensures.status c.fault_answer.ensures.text
