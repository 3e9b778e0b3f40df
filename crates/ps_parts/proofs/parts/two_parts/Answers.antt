-- The rest begins at the line after the mark.
use Rattle.ps_parts.proofs.Marks.{numbered_after, numbered_whole}
use Rattle.ps_parts.proofs.parts.two_parts.Goals as goal

pub returns-clause-line : goal.returns-clause-line
returns-clause-line c =
    let input = c.args.input.now in
    numbered_after input input c.in-Some.cut.before.now c.in-Some.cut.after.now 1 c.in-Some.cut.line (numbered_whole input) c.in-Some.ensures.cut c.in-Some.ensures.line
