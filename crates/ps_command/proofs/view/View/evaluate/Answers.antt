use Rattle.std.proofs.Common.{ℤ, List, SomeIff, subst₂}
use Rattle.ps_term.specs.Evaluation.{EvaluationFits}
use Rattle.ps_term.specs.Term.{value}
use Rattle.ps_command.specs.Values.{value_at}
use Rattle.ps_command.specs.inner.View.{values_from}
use Rattle.ps_command.proofs.view.View.evaluate.Goals as goal

pub returns : goal.returns
returns c =
    subst₂ (λ (gs ls : List ℤ). SomeIff c.evaluate.result (EvaluationFits (value_at (values_from gs ls)) c.args.term.now) (value (value_at (values_from gs ls)) c.args.term.now))
    c.as_slice.ensures.value c.as_slice-2.ensures.value c.evaluate.ensures
