use Rattle.ps_elim.proofs.Gcds.{divisor_of_all-common, divisor_of_all-greatest}
use Rattle.ps_elim.proofs.laws.divisor_of_all_is_greatest.Goals as goal

pub returns-clause-divides : goal.returns-clause-divides
returns-clause-divides c = λ ns. divisor_of_all-common ns

pub returns-clause-greatest : goal.returns-clause-greatest
returns-clause-greatest c = λ ns d all. divisor_of_all-greatest ns d all
