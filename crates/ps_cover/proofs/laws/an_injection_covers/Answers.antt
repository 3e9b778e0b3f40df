use Rattle.ps_config.specs.Sent.{sent}
use Rattle.ps_cover.proofs.laws.an_injection_covers.Goals as goal

pub returns : goal.returns
returns c = λ small large to is. (sent is.0 to, is.2.covering.embeds)
