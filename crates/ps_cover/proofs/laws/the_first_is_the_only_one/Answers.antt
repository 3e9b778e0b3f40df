use Rattle.ps_cover.proofs.Only.{only_first}
use Rattle.ps_cover.proofs.laws.the_first_is_the_only_one.Goals as goal

pub returns : goal.returns
returns c = only_first
