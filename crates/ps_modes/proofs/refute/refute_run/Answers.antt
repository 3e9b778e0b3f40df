-- What each status of `refute` means.
use Rattle.ps_modes.proofs.Meaning.{exactly}
use Rattle.ps_modes.proofs.Owing.{no_owed, yes_owed}
use Rattle.ps_modes.proofs.refute.refute_run.Goals as goal

pub returns-clause-yes : goal.returns-clause-yes
returns-clause-yes g c = exactly yes_owed (g.S.Source.left c.args.source.now) c.answer_input.result c.answer_input.ensures.answers.exactly

pub returns-clause-no : goal.returns-clause-no
returns-clause-no g c = exactly no_owed (g.S.Source.left c.args.source.now) c.answer_input.result c.answer_input.ensures.answers.exactly
