use Rattle.std.proofs.Common.{length, arith}
use Rattle.ps_trace.proofs.Columns.{ends_within}
use Rattle.ps_trace.proofs.steps.choices_of.Goals as goal

pub choices_between-requires-clause-ordered : goal.choices_between-requires-clause-ordered
choices_between-requires-clause-ordered c =
    let within = ends_within 0 c.args.ends.now (length c.args.choices.now) c.args.n c.requires.ends c.requires.within in
    omega (arith, within.0, c.start_of.ensures)

pub choices_between-requires-clause-within : goal.choices_between-requires-clause-within
choices_between-requires-clause-within c =
    (ends_within 0 c.args.ends.now (length c.args.choices.now) c.args.n c.requires.ends c.requires.within).1
