use Rattle.ps_parse.proofs.Answered.{answered}
use Rattle.ps_parse.proofs.OneRefusal.{no_refused_program, one_refusal, refused_so}
use Rattle.ps_parse.proofs.laws.one_answer.Goals as goal

pub returns-clause-one : goal.returns-clause-one
returns-clause-one c = one_refusal

pub returns-clause-none : goal.returns-clause-none
returns-clause-none c = no_refused_program

pub returns-clause-some : goal.returns-clause-some
returns-clause-some c = answered

pub returns-clause-promised : goal.returns-clause-promised
returns-clause-promised c = refused_so
