-- What each status of `member` means.
use Rattle.std.proofs.Common.{arith}
use Rattle.std.specs.Io.KnownBytes.{Appends}
use Rattle.ps_modes.proofs.Meaning.{exactly, follows, line_written, written}
use Rattle.ps_modes.proofs.Proving.{no_owed, proved_infeasible, yes_owed}
use Rattle.ps_modes.specs.Member.{Owed, SaysInfeasible}
use Rattle.ps_modes.specs.declared.status.Status.TheVariants.{BadInput}
use Rattle.ps_modes.proofs.member.member_run.Goals as goal

pub returns-clause-yes : goal.returns-clause-yes
returns-clause-yes g c = exactly yes_owed (g.S.Source.left c.args.source.now) c.answer_input.result c.answer_input.ensures.answers.exactly

pub returns-clause-yes_text : goal.returns-clause-yes_text
returns-clause-yes_text g c =
    written yes_owed (g.S.Source.left c.args.source.now) c.answer_input.result
    (λ text. Appends (g.K.Sink.written c.args.sink.now) (g.K.Sink.written c.answer_input.new.sink) text)
    c.answer_input.ensures.answers.answer

pub returns-clause-infeasible : goal.returns-clause-infeasible
returns-clause-infeasible g c =
    follows yes_owed SaysInfeasible (λ input fact. proved_infeasible input fact.1)
    (g.S.Source.left c.args.source.now) c.answer_input.result c.answer_input.ensures.answers.exactly

pub returns-clause-no : goal.returns-clause-no
returns-clause-no g c = exactly no_owed (g.S.Source.left c.args.source.now) c.answer_input.result c.answer_input.ensures.answers.exactly

pub returns-clause-no_text : goal.returns-clause-no_text
returns-clause-no_text g c =
    written no_owed (g.S.Source.left c.args.source.now) c.answer_input.result
    (λ text. Appends (g.K.Sink.written c.args.sink.now) (g.K.Sink.written c.answer_input.new.sink) text)
    c.answer_input.ensures.answers.answer

pub returns-clause-refused_text : goal.returns-clause-refused_text
returns-clause-refused_text g c =
    line_written Owed BadInput (omega arith) (g.S.Source.left c.args.source.now) c.answer_input.result
    (λ text. Appends (g.K.Sink.written c.args.sink.now) (g.K.Sink.written c.answer_input.new.sink) text)
    c.answer_input.ensures.answers.answer
