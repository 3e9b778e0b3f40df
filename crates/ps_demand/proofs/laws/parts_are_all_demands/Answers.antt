use Rattle.ps_demand.proofs.PartedDemands.{alone_is, is_alone, is_other, other_is}
use Rattle.ps_demand.proofs.laws.parts_are_all_demands.Goals as goal

pub returns-clause-alone : goal.returns-clause-alone
returns-clause-alone c = λ sets q. (is_alone sets q, alone_is sets q)

pub returns-clause-others : goal.returns-clause-others
returns-clause-others c = λ sets set. (is_other sets set, λ h. other_is sets set h.0 h.1)
