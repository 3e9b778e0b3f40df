use Rattle.ps_parse.proofs.OneAnswer.{one_program}
use Rattle.ps_parse.proofs.laws.one_program.Goals as goal

pub returns : goal.returns
returns c = one_program
