use Rattle.std.proofs.Common.{sym, ◌∙◌}
use Rattle.ps_atom.specs.inner.Index.{key_of}
use Rattle.ps_atom.proofs.Indexing.{noted_known, noted_new, unknown}
use Rattle.ps_atom.proofs.predicates.note.Goals as goal

pub returns-then-is_some-clause-noted : goal.returns-then-is_some-clause-noted
returns-then-is_some-clause-noted c =
    noted_known c.args.index.now (key_of c.args.predicate) c.args.number c.number_in.result (sym c.is_some.ensures ∙ c.if-is_some.true) c.number_in.ensures

pub returns-clause-noted : goal.returns-clause-noted
returns-clause-noted c =
    noted_new c.args.index.now c.insert.new.self (key_of c.args.predicate) c.args.number (sym c.number_in.ensures ∙ unknown c.number_in.result (sym c.is_some.ensures ∙ c.if-is_some.false)) c.in_ok-insert.ensures.updates.0
