use Rattle.ps_cover.proofs.Chosen.{least_is_first, greatest_is_not}
use Rattle.ps_cover.proofs.laws.the_least_image_is_first.Goals as goal

pub returns-clause-least : goal.returns-clause-least
returns-clause-least c = least_is_first

pub returns-clause-other : goal.returns-clause-other
returns-clause-other c = greatest_is_not
