use Rattle.ps_compile.proofs.alternatives.first_rows.Goals as goal

pub returns-in-Greater-clause-past : goal.returns-in-Greater-clause-past
returns-in-Greater-clause-past c = λ past g l h i. c.one_row-in-Greater.ensures.past past g l i h

pub returns-in-GreaterEq-clause-past : goal.returns-in-GreaterEq-clause-past
returns-in-GreaterEq-clause-past c = λ past g l h i. c.one_row-in-GreaterEq.ensures.past past g l i h
