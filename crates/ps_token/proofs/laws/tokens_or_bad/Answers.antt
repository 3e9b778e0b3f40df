use Rattle.ps_token.proofs.OneCut.{not_both}
use Rattle.ps_token.proofs.laws.tokens_or_bad.Goals as goal

pub returns : goal.returns
returns c = not_both c.args.bytes.now
