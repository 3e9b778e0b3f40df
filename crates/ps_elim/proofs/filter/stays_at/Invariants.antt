use Rattle.ps_elim.proofs.filter.stays_at.Given as goal

abbrev pub ghost-stays_beside : goal.ghost-stays_beside
ghost-stays_beside g a = g.rows

abbrev pub ghost-is_new_after : goal.ghost-is_new_after
ghost-is_new_after g a = g.rows
