use Rattle.std.proofs.Common.{◌≡◌, ◌==◌, ℕ, ◌+◌, ◌<◌, length, map, drop, sym, ap, ◌∙◌, arith, rules}
use Rattle.std.proofs.lemmas.Result.{err_from_is_err_and}
use Rattle.std.specs.Prelude.{slice_index_or}
use Rattle.ps_command.specs.declared.run_end.RunEnd.TheVariants.{Past128}
use Rattle.ps_trace.proofs.Results.{at_none, at_some, same_error}
use Rattle.ps_trace.proofs.Walking.{failed_before, no_step, stepping, walk_past, walking_start, walks_on}
use Rattle.ps_trace.specs.Reaches.{step_pair}
use Rattle.ps_trace.specs.Replay.{entered}
use Rattle.ps_trace.specs.inner.Trying.{world_from}
use Rattle.ps_trace.proofs.replaying.run_steps.Goals as goal

pub loop-n-init : goal.loop-n-init
loop-n-init c =
    let made : world_from c.in_ok-walk.walk.runner.globals c.in_ok-walk.walk.seats.items ≡ entered c.first_entry-entry.result c.args.state = search rules in
    walking_start c.args.graph.now (map step_pair c.args.steps.now) (slice_index_or c.args.graph.now.entries 0 0) c.args.state _ _ c.requires.initial
    (made ∙ ap (λ (n : ℕ). entered n c.args.state) c.first_entry-entry.ensures) (ap (λ (n : ℕ). n == 1) c.first_entry-entry.ensures)

pub loop-n-preserved : goal.loop-n-preserved
loop-n-preserved c =
    let start = entered (slice_index_or c.args.graph.now.entries 0 0) c.args.state in
    let w = world_from c.loop-n.walk.runner.globals c.loop-n.walk.seats.items in
    let h = stepping c.args.graph.now start w c.args.steps.now c.loop-n.n c.loop-n.failed c.loop-n.invariant c.thread.result c.choices.result.now c.thread.ensures c.choices.ensures in
    walks_on c.args.graph.now (map step_pair c.args.steps.now) start w (c.thread.result, c.choices.result.now) (map step_pair (drop (c.loop-n.n + 1) c.args.steps.now)) c.loop-n.failed h c.if-failed.false
    (world_from c.take.new.self.runner.globals c.take.new.self.seats.items) (c.in-Some.location == 1)
    (at_some _ _ c.in_ok-location.field-0 c.in-Some.location c.in-Some.is c.in_ok-location.ensures.moves)
    (sym (at_some _ _ c.in_ok-location.field-0 c.in-Some.location c.in-Some.is c.in_ok-location.ensures.error (sym c.loop-n.invariant.failed_is ∙ c.if-failed.false)))
    c.in_ok-location.ensures.fits c.in_ok-location.ensures.sized

pub returns-then-failed-clause-answer : goal.returns-then-failed-clause-answer
returns-then-failed-clause-answer c =
    let start = entered (slice_index_or c.args.graph.now.entries 0 0) c.args.state in
    let w = world_from c.loop-n.walk.runner.globals c.loop-n.walk.seats.items in
    let left : c.loop-n.n < length c.args.steps.now = omega (arith, c.loop-n-test.true, c.len-n-end.ensures) in
    sym (failed_before c.args.graph.now start w c.args.steps.now c.loop-n.n c.loop-n.failed c.loop-n.invariant left c.if-failed.true).0

pub returns-then-failed-clause-fits : goal.returns-then-failed-clause-fits
returns-then-failed-clause-fits c =
    let start = entered (slice_index_or c.args.graph.now.entries 0 0) c.args.state in
    let w = world_from c.loop-n.walk.runner.globals c.loop-n.walk.seats.items in
    let left : c.loop-n.n < length c.args.steps.now = omega (arith, c.loop-n-test.true, c.len-n-end.ensures) in
    (failed_before c.args.graph.now start w c.args.steps.now c.loop-n.n c.loop-n.failed c.loop-n.invariant left c.if-failed.true).1

pub returns-in_err-location-clause-past : goal.returns-in_err-location-clause-past
returns-in_err-location-clause-past c =
    let start = entered (slice_index_or c.args.graph.now.entries 0 0) c.args.state in
    let w = world_from c.loop-n.walk.runner.globals c.loop-n.walk.seats.items in
    let h = stepping c.args.graph.now start w c.args.steps.now c.loop-n.n c.loop-n.failed c.loop-n.invariant c.thread.result c.choices.result.now c.thread.ensures c.choices.ensures in
    let end = err_from_is_err_and c.from_residual-in_err-location.result c.from_residual-in_err-location.ensures.1 in
    rw (end.1, end.2) (λ past. walk_past c.args.graph.now (map step_pair c.args.steps.now) start w (c.thread.result, c.choices.result.now) (map step_pair (drop (c.loop-n.n + 1) c.args.steps.now)) c.loop-n.failed h
    c.if-failed.false (c.in_err-location.ensures.past (same_error c.in_err-location.field-0.0 Past128 past)))

pub returns-in-None-clause-answer : goal.returns-in-None-clause-answer
returns-in-None-clause-answer c =
    let start = entered (slice_index_or c.args.graph.now.entries 0 0) c.args.state in
    let w = world_from c.loop-n.walk.runner.globals c.loop-n.walk.seats.items in
    let h = stepping c.args.graph.now start w c.args.steps.now c.loop-n.n c.loop-n.failed c.loop-n.invariant c.thread.result c.choices.result.now c.thread.ensures c.choices.ensures in
    sym (no_step c.args.graph.now (map step_pair c.args.steps.now) start w (c.thread.result, c.choices.result.now) (map step_pair (drop (c.loop-n.n + 1) c.args.steps.now)) c.loop-n.failed h
    c.if-failed.false (at_none _ _ c.in_ok-location.field-0 c.in-None.is c.in_ok-location.ensures.moves) c.in_ok-location.ensures.fits).0

pub returns-in-None-clause-fits : goal.returns-in-None-clause-fits
returns-in-None-clause-fits c =
    let start = entered (slice_index_or c.args.graph.now.entries 0 0) c.args.state in
    let w = world_from c.loop-n.walk.runner.globals c.loop-n.walk.seats.items in
    let h = stepping c.args.graph.now start w c.args.steps.now c.loop-n.n c.loop-n.failed c.loop-n.invariant c.thread.result c.choices.result.now c.thread.ensures c.choices.ensures in
    (no_step c.args.graph.now (map step_pair c.args.steps.now) start w (c.thread.result, c.choices.result.now) (map step_pair (drop (c.loop-n.n + 1) c.args.steps.now)) c.loop-n.failed h
    c.if-failed.false (at_none _ _ c.in_ok-location.field-0 c.in-None.is c.in_ok-location.ensures.moves) c.in_ok-location.ensures.fits).1
