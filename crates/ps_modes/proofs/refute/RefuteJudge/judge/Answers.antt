-- What the reader answered settles what the input owes.
use Rattle.std.proofs.lemmas.Result.{IfOk-weaker}
use Rattle.ps_trace.proofs.Results.{both_ok}
use Rattle.ps_modes.proofs.Owing.{answer_of, judged_owed}
use Rattle.ps_modes.specs.Refute.{NotOfForm, SpellsClaim}
use Rattle.ps_modes.proofs.refute.RefuteJudge.judge.Goals as goal

pub returns-in-Ok-clause-answer : goal.returns-in-Ok-clause-answer
returns-in-Ok-clause-answer c =
    let says : SpellsClaim c.args.input.now c.in-Ok.claim = record { fits = c.in-Ok.ensures.found.0; spelled = c.in-Ok.ensures.found.1 } in
    IfOk-weaker c.judge_claim.result _ _
    (λ answer judged. answer_of c.args.input.now answer.status answer.text.items (judged_owed c.args.input.now c.in-Ok.claim says answer.status answer.text.items judged))
    c.judge_claim.ensures

pub returns-in-Err-Fault-clause-answer : goal.returns-in-Err-Fault-clause-answer
returns-in-Err-Fault-clause-answer c =
    let first = rw c.in-Err-Fault.field-0-is at c.in-Err-Fault.ensures.exact in
    both_ok c.fault_answer.result
    (λ answer s t. answer_of c.args.input.now answer.status answer.text.items (NotOfForm c.in-Err-Fault.fault first s t))
    c.fault_answer.ensures.status c.fault_answer.ensures.text
