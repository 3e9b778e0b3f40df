use Rattle.ps_drop.proofs.Examples.{nine_below_nine}
use Rattle.ps_drop.proofs.worked.a_node_is_below_itself.Goals as goal

pub returns : goal.returns
returns c = nine_below_nine
