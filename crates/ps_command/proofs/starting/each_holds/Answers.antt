use Rattle.std.proofs.Common.{sym, ◌∙◌}
use Rattle.ps_command.proofs.InitialStates.{each_same, fails_on, holds_on, past_on, start_same}
use Rattle.ps_command.proofs.starting.each_holds.Goals as goal

pub loop-locals-preserved : goal.loop-locals-preserved
loop-locals-preserved c =
    holds_on c.as_slice-rows.result.now c.as_slice-globals.result.now c.as_slice-all.result.now c.loop-locals.locals-index c.locals-item.result c.as_slice.result.now
    c.loop-locals-test.true c.locals-item.is c.as_slice.ensures c.loop-locals.invariant c.in-Some.ensures.0 (sym c.in-Some.ensures.1 ∙ c.if-not-held.false)

pub returns-then-not-held : goal.returns-then-not-held
returns-then-not-held c =
    let p = fails_on c.as_slice-rows.result.now c.as_slice-globals.result.now c.as_slice-all.result.now c.loop-locals.locals-index c.locals-item.result c.as_slice.result.now
    c.loop-locals-test.true c.locals-item.is c.as_slice.ensures c.loop-locals.invariant c.in-Some.ensures.0 (sym c.in-Some.ensures.1 ∙ c.if-not-held.true) in (
      each_same c.as_slice-rows.result.now c.args.setting.now.init_each c.as_slice-globals.result.now c.args.state.now.globals c.as_slice-all.result.now c.args.state.now.locals
          c.as_slice-rows.ensures c.as_slice-globals.ensures c.as_slice-all.ensures p.0,
      sym p.1 ∙ start_same c.as_slice-rows.result.now c.args.setting.now.init_each c.as_slice-globals.result.now c.args.state.now.globals c.as_slice-all.result.now c.args.state.now.locals
          c.as_slice-rows.ensures c.as_slice-globals.ensures c.as_slice-all.ensures,
    )

pub returns-in-None : goal.returns-in-None
returns-in-None c = λ f.
    past_on c.as_slice-rows.result.now c.as_slice-globals.result.now c.as_slice-all.result.now c.loop-locals.locals-index c.locals-item.result c.as_slice.result.now
    c.loop-locals-test.true c.locals-item.is c.as_slice.ensures c.loop-locals.invariant c.in-None.ensures
    (each_same c.args.setting.now.init_each c.as_slice-rows.result.now c.args.state.now.globals c.as_slice-globals.result.now c.args.state.now.locals c.as_slice-all.result.now
    (sym c.as_slice-rows.ensures) (sym c.as_slice-globals.ensures) (sym c.as_slice-all.ensures) f)
