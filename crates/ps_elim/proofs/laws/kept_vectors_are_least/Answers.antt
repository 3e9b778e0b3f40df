use Rattle.ps_elim.proofs.Least.{kept_is_least, kept_once}
use Rattle.ps_elim.proofs.laws.kept_vectors_are_least.Goals as goal

pub returns-clause-least : goal.returns-clause-least
returns-clause-least c = λ vs v. kept_is_least vs v

pub returns-clause-once : goal.returns-clause-once
returns-clause-once c = λ vs. kept_once vs
