use Rattle.ps_term.proofs.ExactTerms.{sum_worth, sum_canonical, sum_is}
use Rattle.ps_term.proofs.exact.sums_are_exact.Goals as goal

pub returns-clause-worth : goal.returns-clause-worth
returns-clause-worth c = λ v a b by. sum_worth v a by b

pub returns-clause-canonical : goal.returns-clause-canonical
returns-clause-canonical c = λ a b by h. sum_canonical a by b h

pub returns-clause-only : goal.returns-clause-only
returns-clause-only c = λ s a b by h i e. sum_is s a by b h i e
