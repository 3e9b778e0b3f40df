-- Where the trace is proved `yes` is owed, and `no` elsewhere.
use Rattle.std.proofs.lemmas.Bool.{both_ways}
use Rattle.ps_trace.proofs.Results.{both_ok}
use Rattle.ps_modes.specs.Member.{Proved, Unproved}
use Rattle.ps_modes.proofs.member.judge_member.Goals as goal

pub returns-then-proved : goal.returns-then-proved
returns-then-proved c =
    both_ok c.answer_line.result (λ answer s t. Proved (c.in_ok-proved.ensures.0 c.if-proved.true) s t)
    c.answer_line.ensures.status c.answer_line.ensures.text

pub returns-else-proved : goal.returns-else-proved
returns-else-proved c =
    both_ok c.answer_line-else-proved.result
    (λ answer s t. Unproved (λ proves. both_ways c.in_ok-proved.proved c.if-proved.false (c.in_ok-proved.ensures.1 proves)) s t)
    c.answer_line-else-proved.ensures.status c.answer_line-else-proved.ensures.text
