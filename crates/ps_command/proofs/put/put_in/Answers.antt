use Rattle.ps_term.proofs.ExactTerms.{put_is}
use Rattle.ps_command.proofs.put.put_in.Goals as goal

pub returns-in-Ok-clause-term : goal.returns-in-Ok-clause-term
returns-in-Ok-clause-term c =
    put_is c.in-Ok.put c.args.after.now c.args.term.now c.in-Ok.ensures.canonical c.in-Ok.ensures.worth
