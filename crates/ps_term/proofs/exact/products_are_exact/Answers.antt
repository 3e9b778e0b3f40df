use Rattle.ps_term.proofs.ExactTerms.{pair_value, pair_canonical}
use Rattle.ps_term.proofs.exact.products_are_exact.Goals as goal

pub returns-clause-worth : goal.returns-clause-worth
returns-clause-worth c = pair_value

pub returns-clause-canonical : goal.returns-clause-canonical
returns-clause-canonical c = pair_canonical
