-- The pieces are those of the two calls.
use Rattle.std.proofs.Common.{ap₂, ◌∙◌}
use Rattle.std.proofs.lemmas.Result.{IfOk-weaker}
use Rattle.ps_modes.specs.CheckTexts.{uncovered_text}
use Rattle.ps_modes.proofs.check_texts.step_text.Goals as goal

pub returns : goal.returns
returns c =
    IfOk-weaker c.step_line.result _ _
    (λ text is. is ∙ ap₂ (λ config thread. uncovered_text config c.args.edge thread) (c.as_str.ensures.value ∙ c.in_ok-config.ensures) (c.as_str-2.ensures.value ∙ c.in_ok-thread.ensures))
    c.step_line.ensures
