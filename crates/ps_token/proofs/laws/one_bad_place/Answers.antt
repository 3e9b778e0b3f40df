use Rattle.ps_token.proofs.OneCut.{one_place}
use Rattle.ps_token.proofs.laws.one_bad_place.Goals as goal

pub returns : goal.returns
returns c = one_place c.args.bytes.now
