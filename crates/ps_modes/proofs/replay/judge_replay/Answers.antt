-- A replay on the graph of a program is true exactly where the witness reaches a failure of the program.
use Rattle.std.proofs.Common.{Err, ap}
use Rattle.ps_trace.proofs.Reaching.{reaches_exactly}
use Rattle.ps_trace.proofs.Results.{both_ok}
use Rattle.ps_modes.specs.Replay.{PastRange, Reached, Unreached}
use Rattle.ps_modes.proofs.replay.judge_replay.Goals as goal

pub returns-then-yes : goal.returns-then-yes
returns-then-yes c = λ program is.
    both_ok c.answer_line.result
    (λ answer s t. Reached c.in-Ok.ensures.fits
    ((reaches_exactly program c.args.graph.now is c.args.witness.now).1 (c.in-Ok.ensures.answer.0 c.if-yes.true)) s t)
    c.answer_line.ensures.status c.answer_line.ensures.text

pub returns-else-yes : goal.returns-else-yes
returns-else-yes c = λ program is.
    both_ok c.answer_line-else-yes.result
    (λ answer s t. Unreached c.in-Ok.ensures.fits
    (λ reaches. let yes = c.in-Ok.ensures.answer.1 ((reaches_exactly program c.args.graph.now is c.args.witness.now).0 reaches) in
    let no = c.if-yes.false in absurd (cc)) s t)
    c.answer_line-else-yes.ensures.status c.answer_line-else-yes.ensures.text

pub returns-in-Err-Past128 : goal.returns-in-Err-Past128
returns-in-Err-Past128 c = λ program is.
    both_ok c.answer_line-in-Err-Past128.result (λ answer s t. PastRange (c.in-Err-Past128.ensures.past (ap Err c.in-Err-Past128.field-0-is)) s t)
    c.answer_line-in-Err-Past128.ensures.status c.answer_line-in-Err-Past128.ensures.text
