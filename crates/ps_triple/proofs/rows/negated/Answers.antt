use Rattle.ps_triple.proofs.Denials.{negated_ok}
use Rattle.ps_triple.proofs.rows.negated.Goals as goal

pub returns-clause-row : goal.returns-clause-row
returns-clause-row c = negated_ok c.args.row.now c.negate.result c.negate.ensures.coefficients c.negate.ensures.constant c.negate.ensures.canonical
