use Rattle.std.proofs.Common.{refl}
use Rattle.std.proofs.lemmas.Bool.{false≢true}
use Rattle.ps_term.proofs.worked.terms.Goals as goal

pub returns-clause-spelling : goal.returns-clause-spelling
returns-clause-spelling c = (((λ e. cc), refl, ((λ e. cc), tt, tt)), (λ h. h.0 refl), (λ h. false≢true h.1), (λ h. false≢true h.1))
