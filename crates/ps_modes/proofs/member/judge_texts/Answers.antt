-- The program's graph, the proof and the trace owe the answer, or the line that refuses the program is owed.
use Rattle.std.proofs.lemmas.Result.{IfOk-weaker}
use Rattle.ps_trace.proofs.Results.{both_ok}
use Rattle.ps_modes.proofs.Refusing.{refused_by}
use Rattle.ps_modes.specs.Programs.{RefusesBy}
use Rattle.ps_modes.specs.Parts.{NoProgram, Programs}
use Rattle.ps_modes.proofs.member.judge_texts.Goals as goal

pub returns-in-Ok : goal.returns-in-Ok
returns-in-Ok c =
    let said = c.in-Ok.ensures.said in
    IfOk-weaker c.judge_proof.result _ _ (λ answer owed. Programs said.program c.in-Ok.graph said.says owed)
    (c.judge_proof.ensures said.program)

pub returns-in-Err : goal.returns-in-Err
returns-in-Err c =
    both_ok c.refusal_answer.result
    (λ answer s t. NoProgram (refused_by c.in-Err.end (RefusesBy c.args.program.now) answer.text.items c.in-Err.ensures.refused t) s)
    c.refusal_answer.ensures.status c.refusal_answer.ensures.text
