use Rattle.std.proofs.Common.{◌++◌, ◌∙◌, IfNone, IfSome, ap, refl, subst, List, ℕ}
use Rattle.ps_elim.specs.Elimination.{IsElimination}
use Rattle.ps_elim.specs.declared.answer.Elim.TheVariants.{Refuted}
use Rattle.ps_farkas.specs.Refutes.{AllSumsFit, Refutes}
use Rattle.ps_saturate.proofs.Showing.{not_shown, shown}
use Rattle.ps_saturate.specs.inner.Trials.{pointed_to, rows_of}
use Rattle.ps_term.specs.declared.row.Row.{Row}
use Rattle.ps_saturate.proofs.refuting.refutation.Goals as goal

pub returns-in-Some-clause-refuted : goal.returns-in-Some-clause-refuted
returns-in-Some-clause-refuted c =
    shown c.args.trial.now (pointed_to c.args.set.now) c.in_ok-rows.rows.items _ c.requires.ready c.requires.choices
    (c.in_ok-rows.ensures ∙ ap (λ (rs : List Row). rows_of (pointed_to c.args.set.now) ++ rs) c.as_slice.ensures.value)
    (c.from_list.ensures ∙ c.in_ok-atoms_of-in-Some.ensures) refl c.in_ok-copy-in-Some.ensures
    (subst (λ (rs : List Row). IsElimination rs (Refuted c.in-Some.lambda)) c.as_slice-2.ensures.value (subst (λ o. IfSome o (λ v. IsElimination c.as_slice-2.result.now (Refuted v))) c.in-Some.is c.in_ok-lambda.ensures.refuted))
    (subst (λ (rs : List Row). Refutes rs c.in-Some.lambda) c.as_slice-2.ensures.value (subst (λ o. IfSome o (Refutes c.as_slice-2.result.now)) c.in-Some.is c.in_ok-lambda.ensures.refutes))
    (subst (λ (rs : List Row). AllSumsFit rs c.in-Some.lambda) c.as_slice-2.ensures.value (subst (λ o. IfSome o (AllSumsFit c.as_slice-2.result.now)) c.in-Some.is c.in_ok-lambda.ensures.fits))

pub returns-clause-unrefuted : goal.returns-clause-unrefuted
returns-clause-unrefuted c =
    not_shown c.args.trial.now (pointed_to c.args.set.now) c.in_ok-rows.rows.items c.requires.ready c.requires.choices
    (c.in_ok-rows.ensures ∙ ap (λ (rs : List Row). rows_of (pointed_to c.args.set.now) ++ rs) c.as_slice.ensures.value)
    (subst (λ (rs : List Row). (v : List ℕ) → IsElimination rs (Refuted v) → ¬ AllSumsFit rs v) c.as_slice-2.ensures.value
    (subst (λ o. IfNone o ((v : List ℕ) → IsElimination c.as_slice-2.result.now (Refuted v) → ¬ AllSumsFit c.as_slice-2.result.now v)) c.in-None.is c.in_ok-lambda.ensures.unrefuted))
