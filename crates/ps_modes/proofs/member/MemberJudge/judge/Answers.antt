-- What the cuts and the parts answered settles what the input owes.
use Rattle.std.proofs.Common.{Err, ap}
use Rattle.std.proofs.lemmas.Result.{IfOk-weaker}
use Rattle.ps_parts.specs.declared.parts.TheConstants.{MOST_PROOF, MOST_WITNESS}
use Rattle.ps_trace.proofs.Results.{both_ok}
use Rattle.ps_modes.proofs.Proving.{is_verdict, one_to_two}
use Rattle.ps_modes.proofs.Three.{answer_of, long_owes, middle_room, parts_owe, verdict_of}
use Rattle.ps_modes.proofs.Two.{room}
use Rattle.ps_modes.specs.Member.{OwedToTwo}
use Rattle.ps_modes.specs.ThreeParts.{NoMark}
use Rattle.ps_modes.proofs.member.MemberJudge.judge.Goals as goal

pub judge_texts-requires-clause-proof : goal.judge_texts-requires-clause-proof
judge_texts-requires-clause-proof c = middle_room c.args.input.now _ _ _ c.requires c.in-Ok.ensures.line_middle

pub judge_texts-requires-clause-trace : goal.judge_texts-requires-clause-trace
judge_texts-requires-clause-trace c = room c.args.input.now _ _ c.requires c.in-Ok.ensures.line_last

pub returns-in-Ok-clause-answer : goal.returns-in-Ok-clause-answer
returns-in-Ok-clause-answer c =
    IfOk-weaker c.judge_texts.result _ _
    (λ answer owed. answer_of MOST_PROOF MOST_WITNESS OwedToTwo one_to_two c.args.input.now answer.status answer.text.items
    (parts_owe MOST_PROOF MOST_WITNESS OwedToTwo c.args.input.now _ _ _ _ _ c.in-Ok.ensures.parts c.in-Ok.ensures.within c.in-Ok.ensures.line_middle c.in-Ok.ensures.line_last
    answer.status answer.text.items owed))
    c.judge_texts.ensures

pub returns-in-Ok-clause-verdict : goal.returns-in-Ok-clause-verdict
returns-in-Ok-clause-verdict c =
    IfOk-weaker c.judge_texts.result _ _
    (λ answer owed. verdict_of MOST_PROOF MOST_WITNESS OwedToTwo is_verdict c.args.input.now answer.status answer.text.items
    (parts_owe MOST_PROOF MOST_WITNESS OwedToTwo c.args.input.now _ _ _ _ _ c.in-Ok.ensures.parts c.in-Ok.ensures.within c.in-Ok.ensures.line_middle c.in-Ok.ensures.line_last
    answer.status answer.text.items owed))
    c.judge_texts.ensures

pub returns-in-Err-NoMark-clause-answer : goal.returns-in-Err-NoMark-clause-answer
returns-in-Err-NoMark-clause-answer c =
    both_ok c.answer_line.result
    (λ answer s t. answer_of MOST_PROOF MOST_WITNESS OwedToTwo one_to_two c.args.input.now answer.status answer.text.items
    (NoMark (c.in-Err-NoMark.ensures.no_mark (ap Err c.in-Err-NoMark.field-0-is)) s t))
    c.answer_line.ensures.status c.answer_line.ensures.text

pub returns-in-Err-LimitPart-clause-answer : goal.returns-in-Err-LimitPart-clause-answer
returns-in-Err-LimitPart-clause-answer c =
    both_ok c.answer_line-in-Err-LimitPart.result
    (λ answer s t. answer_of MOST_PROOF MOST_WITNESS OwedToTwo one_to_two c.args.input.now answer.status answer.text.items
    (long_owes MOST_PROOF MOST_WITNESS OwedToTwo c.args.input.now (c.in-Err-LimitPart.ensures.limit (ap Err c.in-Err-LimitPart.field-0-is)) answer.status answer.text.items s t))
    c.answer_line-in-Err-LimitPart.ensures.status c.answer_line-in-Err-LimitPart.ensures.text
