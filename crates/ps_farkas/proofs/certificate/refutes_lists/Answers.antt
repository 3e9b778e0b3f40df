use Rattle.std.proofs.Common.{◌≡◌, ◌↔◌, ℤ, pos, Bool, Option, IsTrue, IfSome, SomeIff, FitsSigned, arith, rules, subst, ◌∙◌}
use Rattle.std.specs.Int.{w128}
use Rattle.std.proofs.lemmas.Int.{ints}
use Rattle.ps_farkas.specs.Refutes.{SumsFit, VariablesCancel, weighted}
use Rattle.ps_farkas.proofs.Soundness.{Refutes-no_values}
use Rattle.ps_farkas.proofs.certificate.refutes_lists.Goals as goal

pub returns-then-cancels-clause-sound : goal.returns-then-cancels-clause-sound
returns-then-cancels-clause-sound c =
    let rows = c.args.rows.now in
    let lambda = c.args.lambda.now in
    let constant = weighted (λ t. t.constant) rows lambda in
    let fits : FitsSigned w128 c.in_ok-constant.constant = search rules in
    let cancel : IsTrue c.in_ok-cancels.cancels ↔ VariablesCancel rows lambda = subst (λ (o : Option Bool). IfSome o (λ yes. IsTrue yes ↔ VariablesCancel rows lambda)) c.in_ok-cancels.ensures.ok_part c.all_cancel.ensures.answer in
    let sum : SumsFit (λ t. t.constant) (pos 0) rows lambda × (c.in_ok-constant.constant ≡ constant) = subst (λ (o : Option ℤ). SomeIff o (SumsFit (λ t. t.constant) (pos 0) rows lambda) constant) c.in_ok-constant.ensures.ok_part c.constant_total.ensures in
    λ yes. Refutes-no_values rows lambda (record { lengths = c.if-lambda-len.false ∙ c.len.ensures; cancels = cancel.0 c.if-cancels.true; positive = omega (arith, ints, yes, sum.1) })
