use Rattle.std.proofs.Common.{sym, ◌∙◌}
use Rattle.ps_atom.proofs.Indexing.{noted_known, noted_new, unknown}
use Rattle.ps_atom.proofs.predicates.enter.Goals as goal

pub returns-then-is_some : goal.returns-then-is_some
returns-then-is_some c =
    noted_known c.args.index.now c.args.key c.args.number c.number_in.result (sym c.is_some.ensures ∙ c.if-is_some.true) c.number_in.ensures

pub returns : goal.returns
returns c =
    noted_new c.args.index.now c.insert.new.self c.args.key c.args.number (sym c.number_in.ensures ∙ unknown c.number_in.result (sym c.is_some.ensures ∙ c.if-is_some.false)) c.in_ok-insert.ensures.updates.0
