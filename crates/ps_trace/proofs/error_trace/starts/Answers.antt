use Rattle.std.proofs.Common.{sym, ◌∙◌}
use Rattle.ps_trace.proofs.Begins.{starts_is}
use Rattle.ps_trace.proofs.error_trace.starts.Goals as goal

pub returns-then-leaves : goal.returns-then-leaves
returns-then-leaves c =
    let said = c.is_first.ensures in
    said ∙ starts_is c.args.edges.now c.args.location c.args.letters.now c.args.place (record { thread = 0; edge = 0 }) c.requires (sym c.leaves.ensures ∙ c.if-leaves.true)
