use Rattle.ps_parse.proofs.Examples.{causes_stand, items_give, items_give_no_more}
use Rattle.ps_parse.proofs.worked.causes.Goals as goal

pub returns-clause-gives : goal.returns-clause-gives
returns-clause-gives c = items_give

pub returns-clause-no_more : goal.returns-clause-no_more
returns-clause-no_more c = items_give_no_more

pub returns-clause-causes : goal.returns-clause-causes
returns-clause-causes c = causes_stand
