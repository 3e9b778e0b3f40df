use Rattle.ps_elim.proofs.Gcds.{common_divisor-gcd}
use Rattle.ps_elim.proofs.laws.common_divisor_is_greatest.Goals as goal

pub returns : goal.returns
returns c = λ a b. common_divisor-gcd a b
