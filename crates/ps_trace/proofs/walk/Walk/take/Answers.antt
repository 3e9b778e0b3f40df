use Rattle.std.proofs.Common.{◌<◌, ◌≤◌, length, rules}
use Rattle.ps_trace.proofs.Results.{both_ok, if_ok, match_both, match_map, on_ok}
use Rattle.ps_trace.proofs.Walking.{error_here, fit_here, fits_here, goes_here, no_thread, seat_sized, sized_here, stays_here}
use Rattle.ps_trace.proofs.walk.Walk.take.Goals as goal

pub move_seat-requires-clause-sized : goal.move_seat-requires-clause-sized
move_seat-requires-clause-sized c =
    let w : c.args.thread < length c.args.self.now.seats.items = search rules in
    seat_sized c.args.graph.now.setting c.args.self.now.runner.globals c.args.self.now.seats.items c.args.thread c.index_mut.result.now w c.index_mut.ensures.value c.requires.sized

pub returns-then-thread-len-clause-moves : goal.returns-then-thread-len-clause-moves
returns-then-thread-len-clause-moves c =
    let w : c.args.thread < length c.args.self.now.seats.items = search rules in
    both_ok c.move_seat.result
    (λ to p q. match_both to
    (λ none u. stays_here c.args.graph.now (c.args.thread, c.args.choices.now) c.args.self.now.runner.globals c.args.self.now.seats.items c.index_mut.result.now w c.index_mut.ensures.value none)
    (λ b some at. goes_here c.args.graph.now (c.args.thread, c.args.choices.now) c.args.self.now.runner.globals c.args.self.now.seats.items c.index_mut.result.now w c.index_mut.ensures.value
    c.move_seat.new.seat b c.move_seat.new.runner.globals some at) p q)
    c.move_seat.ensures.moves c.move_seat.ensures.comes

pub returns-then-thread-len-clause-error : goal.returns-then-thread-len-clause-error
returns-then-thread-len-clause-error c =
    let w : c.args.thread < length c.args.self.now.seats.items = search rules in
    if_ok c.move_seat.result
    (λ to q. match_map to (λ u. u)
    (λ b at none. error_here c.args.graph.now (c.args.thread, c.args.choices.now) c.args.self.now.runner.globals c.args.self.now.seats.items c.index_mut.result.now w c.index_mut.ensures.value
    c.move_seat.new.seat b c.move_seat.new.runner.globals at none) q)
    c.move_seat.ensures.comes

pub returns-then-thread-len-clause-sized : goal.returns-then-thread-len-clause-sized
returns-then-thread-len-clause-sized c =
    let w : c.args.thread < length c.args.self.now.seats.items = search rules in
    on_ok c.move_seat.result
    (λ a. sized_here c.args.graph.now (c.args.thread, c.args.choices.now) c.args.self.now.runner.globals c.args.self.now.seats.items c.index_mut.result.now w c.index_mut.ensures.value
    c.move_seat.new.seat c.move_seat.new.runner.globals a c.requires.sized)
    c.move_seat.ensures.sized

pub returns-then-thread-len-clause-fits : goal.returns-then-thread-len-clause-fits
returns-then-thread-len-clause-fits c =
    let w : c.args.thread < length c.args.self.now.seats.items = search rules in
    on_ok c.move_seat.result
    (λ f. fits_here c.args.graph.now (c.args.thread, c.args.choices.now) c.args.self.now.runner.globals c.args.self.now.seats.items c.index_mut.result.now w c.index_mut.ensures.value f)
    c.move_seat.ensures.fits

pub returns-then-thread-len-clause-past : goal.returns-then-thread-len-clause-past
returns-then-thread-len-clause-past c =
    let w : c.args.thread < length c.args.self.now.seats.items = search rules in
    λ p f. c.move_seat.ensures.past p
    (fit_here c.args.graph.now (c.args.thread, c.args.choices.now) c.args.self.now.runner.globals c.args.self.now.seats.items c.index_mut.result.now w c.index_mut.ensures.value f)

pub returns-else-thread-len-clause-moves : goal.returns-else-thread-len-clause-moves
returns-else-thread-len-clause-moves c =
    let past : length c.args.self.now.seats.items ≤ c.args.thread = search rules in
    (no_thread c.args.graph.now (c.args.thread, c.args.choices.now) c.args.self.now.runner.globals c.args.self.now.seats.items past).0

pub returns-else-thread-len-clause-fits : goal.returns-else-thread-len-clause-fits
returns-else-thread-len-clause-fits c =
    let past : length c.args.self.now.seats.items ≤ c.args.thread = search rules in
    (no_thread c.args.graph.now (c.args.thread, c.args.choices.now) c.args.self.now.runner.globals c.args.self.now.seats.items past).1
