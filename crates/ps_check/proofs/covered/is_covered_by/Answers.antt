use Rattle.std.proofs.Common.{refl}
use Rattle.std.proofs.lemmas.Bool.{false≢true}
use Rattle.ps_config.specs.Sent.{sent}
use Rattle.ps_check.proofs.covered.is_covered_by.Goals as goal

pub returns-in-Some : goal.returns-in-Some
returns-in-Some c = ((λ h. (let is = c.in-Some.ensures.some in (sent is.0 _, is.2.covering.embeds))), (λ h. refl))

pub returns-in-None : goal.returns-in-None
returns-in-None c = ((λ h. absurd (false≢true h)), (λ h. absurd (c.in-None.ensures.none h)))
