use Rattle.ps_elim.proofs.next.next_set.Given as goal

abbrev pub ghost-with_pairs : goal.ghost-with_pairs
ghost-with_pairs g a = g.rows

abbrev pub ghost-kept : goal.ghost-kept
ghost-kept g a = g.rows
