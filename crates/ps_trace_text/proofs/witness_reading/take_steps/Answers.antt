use Rattle.std.proofs.Common.{List, sym, ◌∙◌}
use Rattle.std.specs.Prelude.{codes}
use Rattle.std.proofs.lemmas.Result.{err_from_is_err_and}
use Rattle.ps_lines.specs.Reading.{while_at}
use Rattle.ps_lines.proofs.Loop.{whiles_fails, whiles_limit}
use Rattle.ps_trace.specs.declared.step.Step.{Step}
use Rattle.ps_trace_text.specs.WitnessReading.{step_at}
use Rattle.ps_trace_text.proofs.witness_reading.take_steps.Goals as goal

pub returns-in_err-step : goal.returns-in_err-step
returns-in_err-step c =
    let p = err_from_is_err_and c.from_residual.result c.from_residual.ensures.1 in
    rw (p.1, p.2)
    (whiles_fails (λ (steps : List Step). steps) (codes "step") step_at c.loop.steps c.args.limit c.loop.counter c.loop.reader c.take_step.new.reader c.take_step.new.reader c.in_err-step.field-0.0
    (while_at (codes "step") step_at c.args.limit c.args.reader.now) c.loop.invariant c.loop-test.true (sym c.begins.ensures ∙ c.if-not-begins.false) c.in_err-step.ensures)

pub returns-then-begins : goal.returns-then-begins
returns-then-begins c =
    rw c.line_fault.ensures
    (whiles_limit (codes "step") step_at c.loop.steps c.args.limit c.loop.counter c.loop.reader (while_at (codes "step") step_at c.args.limit c.args.reader.now) c.loop.invariant c.loop-test.false
    (sym c.begins-2.ensures ∙ c.if-begins.true))
