use Rattle.std.proofs.Common.{subst}
use Rattle.ps_elim.specs.Elimination.{IsElimination}
use Rattle.ps_farkas.specs.Refutes.{AllSumsFit}
use Rattle.ps_saturate.proofs.Showing.{past_refutes_nothing, refuted_once, wide_refutes_nothing}
use Rattle.ps_saturate.proofs.Stepping.{if_none}
use Rattle.ps_saturate.proofs.refuting.multipliers.Goals as goal

pub returns-in-Refuted-clause-unrefuted : goal.returns-in-Refuted-clause-unrefuted
returns-in-Refuted-clause-unrefuted c =
    if_none c.within_range.result _ _
    (λ past lambda h fits. past (subst (λ v. AllSumsFit c.args.rows.now v) (refuted_once c.args.rows.now lambda c.in-Refuted.lambda h (subst (λ a. IsElimination c.args.rows.now a) c.in-Refuted.is c.in_ok-lambda.ensures.answer)) fits))
    c.within_range.ensures.past

pub returns-in-Past128-clause-unrefuted : goal.returns-in-Past128-clause-unrefuted
returns-in-Past128-clause-unrefuted c =
    λ lambda h fits. past_refutes_nothing c.args.rows.now c.in-Past128.stage lambda (subst (λ a. IsElimination c.args.rows.now a) c.in-Past128.is c.in_ok-lambda.ensures.answer) h

pub returns-clause-unrefuted : goal.returns-clause-unrefuted
returns-clause-unrefuted c =
    λ lambda h fits. wide_refutes_nothing c.args.rows.now c.in-TooWide.stage c.in-TooWide.count lambda (subst (λ a. IsElimination c.args.rows.now a) c.in-TooWide.is c.in_ok-lambda.ensures.answer) h
