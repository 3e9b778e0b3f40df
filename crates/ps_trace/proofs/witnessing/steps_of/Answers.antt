use Rattle.std.proofs.Common.{◌<◌, ◌+◌, List, sym, subst}
use Rattle.ps_graph.specs.Picks.{values_in}
use Rattle.ps_graph.specs.declared.edge.Pick.{Pick}
use Rattle.ps_trace.specs.inner.Known.{known_values}
use Rattle.ps_trace.proofs.Stepping.{room}
use Rattle.ps_trace.proofs.witnessing.steps_of.Goals as goal

pub choices_of-requires : goal.choices_of-requires
choices_of-requires c =
    subst (λ (ps : List Pick). c.loop-letter.first + values_in ps < 4294967296) (sym c.picks_at.ensures)
    (room c.args.graph.now c.args.threads.now (known_values c.args.known.now) c.args.letters.now c.loop-letter.steps c.loop-letter.first c.loop-letter.letter-index (record { thread = 0; edge = 0 })
    4294967296 c.loop-letter-test.true c.loop-letter.invariant c.requires.havocs)
