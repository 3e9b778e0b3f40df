use Rattle.ps_elim.proofs.filter.kept.Given as goal

abbrev pub ghost-marks : goal.ghost-marks
ghost-marks g a = g.rows
