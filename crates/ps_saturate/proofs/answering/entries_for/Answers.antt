use Rattle.std.proofs.Common.{IfNone, IfSome, subst, sym}
use Rattle.ps_saturate.proofs.Asking.{answer_from, answer_nothing}
use Rattle.ps_saturate.proofs.Stepping.{if_ok}
use Rattle.ps_saturate.specs.Answered.{IsAnswerTo}
use Rattle.ps_saturate.specs.inner.Trials.{GivesNothing, IsReady, IsTrialOf}
use Rattle.ps_saturate.proofs.answering.entries_for.Goals as goal

pub returns-in_ok-found-in-Some : goal.returns-in_ok-found-in-Some
returns-in_ok-found-in-Some c =
    if_ok c.new_entries.result _ _
    (λ entries e. subst (λ es. IsAnswerTo c.args.setting.now c.args.predicates.now c.args.question c.args.width es) (sym e)
    (answer_from c.args.setting.now c.args.predicates.now c.args.question c.args.width c.in-Some.trial c.in_ok-found-in-Some.found.items
    (subst (λ o. IfSome o IsReady) c.in-Some.is c.in_ok-trial.ensures.ready)
    (subst (λ o. IfSome o (IsTrialOf c.args.setting.now c.args.predicates.now c.args.question c.args.width)) c.in-Some.is c.in_ok-trial.ensures.trial)
    c.in_ok-found-in-Some.ensures))
    c.new_entries.ensures

pub returns-in-None : goal.returns-in-None
returns-in-None c =
    subst (λ es. IsAnswerTo c.args.setting.now c.args.predicates.now c.args.question c.args.width es) (sym c.new.ensures.items)
    (answer_nothing c.args.setting.now c.args.predicates.now c.args.question c.args.width
    (subst (λ o. IfNone o (GivesNothing c.args.setting.now c.args.predicates.now c.args.question c.args.width)) c.in-None.is c.in_ok-trial.ensures.nothing))
