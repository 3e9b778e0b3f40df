use Rattle.ps_elim.proofs.filter.stays.Given as goal

abbrev pub ghost-stays_beside : goal.ghost-stays_beside
ghost-stays_beside g a = g.rows

abbrev pub ghost-stays_at : goal.ghost-stays_at
ghost-stays_at g a = g.rows
