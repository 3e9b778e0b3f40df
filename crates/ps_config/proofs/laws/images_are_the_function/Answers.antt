use Rattle.ps_config.proofs.Sent.{sent_image}
use Rattle.ps_config.proofs.laws.images_are_the_function.Goals as goal

pub returns : goal.returns
returns c = sent_image
