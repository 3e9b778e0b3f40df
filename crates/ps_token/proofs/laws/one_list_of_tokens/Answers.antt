use Rattle.ps_token.proofs.OneCut.{one_list}
use Rattle.ps_token.proofs.laws.one_list_of_tokens.Goals as goal

pub returns : goal.returns
returns c = one_list c.args.bytes.now
