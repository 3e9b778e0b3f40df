use Rattle.ps_parse.proofs.OneAnswer.{program_is_text}
use Rattle.ps_parse.proofs.ProgramsClean.{program_of_text, program_of_clean}
use Rattle.ps_parse.proofs.laws.programs_have_no_cause.Goals as goal

pub returns-clause-text : goal.returns-clause-text
returns-clause-text c = λ words program is. (program_is_text words program is, program_of_clean words program is)

pub returns-clause-program : goal.returns-clause-program
returns-clause-program c = program_of_text
