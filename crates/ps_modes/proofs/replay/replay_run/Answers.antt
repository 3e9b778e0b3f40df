-- What each status of `replay` means.
use Rattle.std.proofs.Common.{arith}
use Rattle.std.specs.Io.KnownBytes.{Appends}
use Rattle.ps_modes.proofs.Meaning.{exactly, line_written}
use Rattle.ps_modes.proofs.Replaying.{no_owed, yes_owed}
use Rattle.ps_modes.specs.Replay.{Owed}
use Rattle.ps_modes.specs.declared.status.Status.TheVariants.{BadInput}
use Rattle.ps_modes.proofs.replay.replay_run.Goals as goal

pub returns-clause-yes : goal.returns-clause-yes
returns-clause-yes g c = exactly yes_owed (g.S.Source.left c.args.source.now) c.answer_input.result c.answer_input.ensures.answers.exactly

pub returns-clause-no : goal.returns-clause-no
returns-clause-no g c = exactly no_owed (g.S.Source.left c.args.source.now) c.answer_input.result c.answer_input.ensures.answers.exactly

pub returns-clause-refused_text : goal.returns-clause-refused_text
returns-clause-refused_text g c =
    line_written Owed BadInput (omega arith) (g.S.Source.left c.args.source.now) c.answer_input.result
    (λ text. Appends (g.K.Sink.written c.args.sink.now) (g.K.Sink.written c.answer_input.new.sink) text)
    c.answer_input.ensures.answers.answer
