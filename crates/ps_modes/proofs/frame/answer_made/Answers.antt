-- A source that gave more than the limit has an input that owes the one line.
use Rattle.std.proofs.Common.{Err, ap}
use Rattle.ps_modes.proofs.Answering.{IfOk-made, long_settled}
use Rattle.ps_modes.proofs.frame.answer_made.Goals as goal

pub returns-in-Err-Long-clause-answer : goal.returns-in-Err-Long-clause-answer
returns-in-Err-Long-clause-answer g c =
    IfOk-made c.answer_line.result c.map_err-in-Err-Long.result _ _ _ _
    (λ answer. long_settled (g.J.Judge.owed c.args.judge.now) _ _ answer.status answer.text.items (c.in-Err-Long.ensures.long (ap Err c.in-Err-Long.field-0-is)))
    c.map_err-in-Err-Long.ensures.cases c.answer_line.ensures.status c.answer_line.ensures.text
