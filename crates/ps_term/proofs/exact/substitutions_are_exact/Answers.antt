use Rattle.ps_term.proofs.ExactTerms.{put_worth, put_canonical, put_is}
use Rattle.ps_term.proofs.exact.substitutions_are_exact.Goals as goal

pub returns-clause-worth : goal.returns-clause-worth
returns-clause-worth c = put_worth

pub returns-clause-canonical : goal.returns-clause-canonical
returns-clause-canonical c = put_canonical

pub returns-clause-only : goal.returns-clause-only
returns-clause-only c = put_is
