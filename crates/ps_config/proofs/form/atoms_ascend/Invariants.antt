use Rattle.ps_config.proofs.Forming.{AtomsAscendTo}
use Rattle.ps_config.proofs.form.atoms_ascend.Given as goal

abbrev pub invariant-loop-place : goal.invariant-loop-place
invariant-loop-place l = AtomsAscendTo l.atoms l.place
