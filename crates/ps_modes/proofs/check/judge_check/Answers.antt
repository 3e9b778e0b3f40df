-- The judgement settles what the proof owes.
use Rattle.std.proofs.Common.{◌≡◌, ◌∙◌, refl, subst, sym}
use Rattle.ps_check.specs.Faults.{IfRefused, IsFirstFault}
use Rattle.ps_check.specs.declared.judgement.Judgement.TheVariants as judgement
use Rattle.ps_trace.proofs.Results.{both_ok}
use Rattle.ps_modes.specs.Check.{Accepted, Refused}
use Rattle.ps_modes.proofs.check.judge_check.Goals as goal

pub returns-in-Accepted : goal.returns-in-Accepted
returns-in-Accepted c =
    both_ok c.answer_line.result (λ answer s t. Accepted (c.in_ok-check.ensures.accepted.0 c.in-Accepted.is) s t)
    c.answer_line.ensures.status c.answer_line.ensures.text

pub returns-in_ok-not_accepted_line-in-Refused : goal.returns-in_ok-not_accepted_line-in-Refused
returns-in_ok-not_accepted_line-in-Refused c =
    let judged = c.in_ok-check.ensures in
    Refused c.in-Refused.fault
    (λ accepts. let same : judgement.Refused c.in-Refused.fault ≡ judgement.Accepted = sym c.in-Refused.is ∙ judged.accepted.1 accepts in absurd (cc))
    (subst (IfRefused (IsFirstFault c.args.graph.now c.args.proof.now)) c.in-Refused.is judged.refused)
    refl c.in_ok-not_accepted_line-in-Refused.ensures
