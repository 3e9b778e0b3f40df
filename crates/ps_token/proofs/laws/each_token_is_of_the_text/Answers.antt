use Rattle.ps_token.proofs.OneCut.{each_token}
use Rattle.ps_token.proofs.laws.each_token_is_of_the_text.Goals as goal

pub returns : goal.returns
returns c = each_token c.args.bytes.now
