use Rattle.std.proofs.Common.{ℤ, List, sym, ap, ap₂, ◌∙◌}
use Rattle.std.specs.Prelude.{Some}
use Rattle.ps_command.specs.Values.{Values}
use Rattle.ps_trace.proofs.Results.{match_map}
use Rattle.ps_trace.proofs.Tried.{along_seat, fit_seat, fits_seat}
use Rattle.ps_trace.specs.inner.Trying.{seen_from}
use Rattle.ps_trace.proofs.walk.move_seat.Goals as goal

pub returns-in-Ok-clause-moves : goal.returns-in-Ok-clause-moves
returns-in-Ok-clause-moves c =
    let make : List ℤ → List ℤ → Values = λ gs ls. record { globals = gs; locals = ls } in
    let seen = ap₂ make (sym (ap (λ (v : Values). v.globals) c.exchange_locals-2.ensures.seen)) (sym (ap (λ v. v.items) c.come_to.ensures.locals ∙ c.exchange_locals-2.ensures.given)) in
    match_map c.in-Ok.to
    (λ none. along_seat c.args.graph.now c.args.seat.now.at (seen_from c.args.runner.now.globals c.args.seat.now) c.exchange_locals.new.self c.args.choices.now c.from.result.now _ _
    (c.requires.leaving c.args.seat.now.at) c.from.ensures c.exchange_locals.ensures.seen none)
    (λ b some. along_seat c.args.graph.now c.args.seat.now.at (seen_from c.args.runner.now.globals c.args.seat.now) c.exchange_locals.new.self c.args.choices.now c.from.result.now _ _
    (c.requires.leaving c.args.seat.now.at) c.from.ensures c.exchange_locals.ensures.seen
    (some ∙ ap (λ (v : Values). Some (v, b)) seen))
    c.in-Ok.ensures.goes

pub returns-in-Ok-clause-fits : goal.returns-in-Ok-clause-fits
returns-in-Ok-clause-fits c =
    fits_seat c.args.graph.now c.args.seat.now.at (seen_from c.args.runner.now.globals c.args.seat.now) c.exchange_locals.new.self c.args.choices.now c.from.result.now _
    (c.requires.leaving c.args.seat.now.at) c.from.ensures c.exchange_locals.ensures.seen c.in-Ok.ensures.fits

pub returns-in-Err-clause-past : goal.returns-in-Err-clause-past
returns-in-Err-clause-past c = λ p f.
    c.in-Err.ensures.past p
    (fit_seat c.args.graph.now c.args.seat.now.at (seen_from c.args.runner.now.globals c.args.seat.now) c.exchange_locals.new.self c.args.choices.now c.from.result.now _
    (c.requires.leaving c.args.seat.now.at) c.from.ensures c.exchange_locals.ensures.seen f)
