use Rattle.ps_elim.proofs.pair.combined.Given as goal

abbrev pub ghost-reduced : goal.ghost-reduced
ghost-reduced g a = g.rows
