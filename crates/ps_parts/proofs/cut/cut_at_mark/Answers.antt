-- The two slices are what stands before the first mark and after it.
use Rattle.std.proofs.Common.{◌+◌}
use Rattle.std.proofs.lemmas.List.{take_rest}
use Rattle.ps_parts.proofs.Marks.{cut_at}
use Rattle.ps_parts.proofs.cut.cut_at_mark.Goals as goal

pub returns-clause-cut : goal.returns-clause-cut
returns-clause-cut c =
    rw (take_rest c.args.input.now (c.in_ok-place.place + 3)) (cut_at c.args.input.now c.in_ok-place.place c.in_ok-place.ensures.first)
