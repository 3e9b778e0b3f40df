use Rattle.std.proofs.Common.{◌≡◌, ◌<◌, length, sym, ◌∙◌, rules}
use Rattle.ps_command.proofs.InitialStates.{starts_some}
use Rattle.ps_command.proofs.starting.is_initial_state.Goals as goal

pub returns-clause-answer : goal.returns-clause-answer
returns-clause-answer c =
    let some : 0 < length c.args.state.now.locals = search rules in
    starts_some c.args.setting.now c.args.state.now c.each_holds.result some (c.is_sized.ensures.0 c.if-not-is_sized.false) (sym c.in_ok-once.ensures.1 ∙ c.if-not-once.false) c.each_holds.ensures
