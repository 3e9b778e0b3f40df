use Rattle.std.proofs.Common.{◌+◌, ap, drop}
use Rattle.std.proofs.lemmas.List.{drop_more}
use Rattle.ps_trace.specs.Traces.{pairs_in}
use Rattle.ps_trace.specs.inner.SoFars.{so_far_of}
use Rattle.ps_trace.proofs.Rowing.{rowing_take}
use Rattle.ps_trace.proofs.rows.append_rows.Goals as goal

pub loop-letter-preserved : goal.loop-letter-preserved
loop-letter-preserved c =
    let ls = c.args.letters.now in
    let i = c.loop-letter.letter-index in
    rowing_take c.args.graph.now c.args.rows.now.items (pairs_in c.args.letters.now) (so_far_of c.loop-letter.so_far) (so_far_of c.take.new.self) c.loop-letter.rows.items c.take.new.rows.items
    _ (pairs_in (drop c.loop-letter.letter-index c.args.letters.now)) (pairs_in (drop (c.loop-letter.letter-index + 1) c.args.letters.now)) c.form_at.result.now c.form_at.ensures.form
    (ap pairs_in (drop_more ls i (record { thread = 0; edge = 0 }) c.loop-letter-test.true)) c.loop-letter.invariant c.in_ok-take.ensures.fits c.in_ok-take.ensures.after c.in_ok-take.ensures.rows
