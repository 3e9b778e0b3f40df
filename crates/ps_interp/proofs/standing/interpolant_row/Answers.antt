use Rattle.ps_term.proofs.Negations.{TermFits-negation}
use Rattle.ps_interp.proofs.Parting.{other_end}
use Rattle.ps_interp.proofs.standing.interpolant_row.Goals as goal

pub returns-clause-past : goal.returns-clause-past
returns-clause-past c = λ past fits. c.in-Err.ensures.past (other_end c.in-Err.end past) (TermFits-negation c.from_constant-one.result (record { term = c.args.sum.now }) c.from_constant-one.ensures fits)
