use Rattle.std.proofs.Common.{◌≡◌, sym, subst, rules}
use Rattle.ps_command.specs.RunFits.{StartFits}
use Rattle.ps_command.specs.declared.state.State.{State}
use Rattle.ps_trace.proofs.Results.{on_ok}
use Rattle.ps_trace.proofs.Walking.{fits_not_initial, fits_whole}
use Rattle.ps_trace.specs.Reaches.{witness_state}
use Rattle.ps_trace.proofs.replaying.replay.Goals as goal

pub returns-then-initial-clause-fits : goal.returns-then-initial-clause-fits
returns-then-initial-clause-fits c =
    let same : c.in_ok-state.state ≡ witness_state c.args.witness.now = search rules in
    on_ok c.run_steps.result (λ f. fits_whole c.args.graph.now c.args.witness.now c.in_ok-state.state same c.in-Ok.ensures.fits f) c.run_steps.ensures.fits

pub returns-else-initial-clause-fits : goal.returns-else-initial-clause-fits
returns-else-initial-clause-fits c =
    let same : c.in_ok-state.state ≡ witness_state c.args.witness.now = search rules in
    fits_not_initial c.args.graph.now c.args.witness.now c.in_ok-state.state c.in-Ok.initial same c.in-Ok.ensures.fits c.in-Ok.ensures.answer.1 c.if-initial.false

pub returns-in-Err-clause-past : goal.returns-in-Err-clause-past
returns-in-Err-clause-past c =
    let same : c.in_ok-state.state ≡ witness_state c.args.witness.now = search rules in
    λ p f. c.in-Err.ensures.past p (subst (λ (s : State). StartFits c.args.graph.now.setting s) (sym same) f.start)
