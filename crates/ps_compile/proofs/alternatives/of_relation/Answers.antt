use Rattle.ps_compile.proofs.alternatives.of_relation.Goals as goal
use Rattle.ps_term.specs.declared.term.TermEnd.TheVariants.{Past128}
use Rattle.ps_compile.proofs.Small.{same_error}

pub returns-in-Err-clause-past : goal.returns-in-Err-clause-past
returns-in-Err-clause-past c = λ past g l h. c.in-Err.ensures.past (same_error c.in-Err.end Past128 past) g l h.0 h.1

pub returns-in-Err-one_row-clause-past : goal.returns-in-Err-one_row-clause-past
returns-in-Err-one_row-clause-past c = λ past g l h. c.in-Err-one_row.ensures.past (same_error c.in-Err-one_row.end Past128 past) g l h.1 h.0
