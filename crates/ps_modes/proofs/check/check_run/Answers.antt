-- What each status of `check` means.
use Rattle.std.proofs.Common.{arith}
use Rattle.std.specs.Io.KnownBytes.{Appends}
use Rattle.ps_modes.proofs.Checking.{accepted_safe, exactly_fault, fault_written, yes_owed}
use Rattle.ps_modes.proofs.Meaning.{exactly, follows, line_written, written}
use Rattle.ps_modes.specs.Check.{Owed, SaysSafe}
use Rattle.ps_modes.specs.declared.status.Status.TheVariants.{BadInput}
use Rattle.ps_modes.proofs.check.check_run.Goals as goal

pub returns-clause-accepted : goal.returns-clause-accepted
returns-clause-accepted g c = exactly yes_owed (g.S.Source.left c.args.source.now) c.answer_input.result c.answer_input.ensures.answers.exactly

pub returns-clause-accepted_text : goal.returns-clause-accepted_text
returns-clause-accepted_text g c =
    written yes_owed (g.S.Source.left c.args.source.now) c.answer_input.result
    (λ text. Appends (g.K.Sink.written c.args.sink.now) (g.K.Sink.written c.answer_input.new.sink) text)
    c.answer_input.ensures.answers.answer

pub returns-clause-safe : goal.returns-clause-safe
returns-clause-safe g c =
    follows yes_owed SaysSafe (λ input fact. accepted_safe input fact.1)
    (g.S.Source.left c.args.source.now) c.answer_input.result c.answer_input.ensures.answers.exactly

pub returns-clause-not_accepted : goal.returns-clause-not_accepted
returns-clause-not_accepted g c = exactly_fault (g.S.Source.left c.args.source.now) c.answer_input.result c.answer_input.ensures.answers.exactly

pub returns-clause-fault_text : goal.returns-clause-fault_text
returns-clause-fault_text g c =
    fault_written (g.S.Source.left c.args.source.now) c.answer_input.result
    (λ text. Appends (g.K.Sink.written c.args.sink.now) (g.K.Sink.written c.answer_input.new.sink) text)
    c.answer_input.ensures.answers.answer

pub returns-clause-refused_text : goal.returns-clause-refused_text
returns-clause-refused_text g c =
    line_written Owed BadInput (omega arith) (g.S.Source.left c.args.source.now) c.answer_input.result
    (λ text. Appends (g.K.Sink.written c.args.sink.now) (g.K.Sink.written c.answer_input.new.sink) text)
    c.answer_input.ensures.answers.answer
