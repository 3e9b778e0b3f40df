use denote.Hole.Carrier.{hidden}
use Rattle.std.proofs.Common.{refl, inl, inr, lit<}
use Rattle.ps_compile.proofs.Examples.{are_different}
use Rattle.ps_compile.proofs.worked.programs.Goals as goal
use Rattle.ps_compile.specs.Examples.Programs.{half_commands, pool_commands, race_commands}
use Rattle.ps_tree.specs.declared.stmt.StmtKind.TheBlock.{hidden-the_row-Stmt-0}

pub returns-clause-half : goal.returns-clause-half
returns-clause-half c = record { counted = refl; planned = (record { source = refl; target = refl; ops = refl; picks = refl }, (record { source = refl; target = refl; ops = refl; picks = refl }, (record { source = refl; target = refl; ops = refl; picks = refl }, tt))); numbered = record { different = are_different half_commands refl; in_order = inr (refl, inr (refl, inr (refl, refl))) } }

pub returns-clause-race : goal.returns-clause-race
returns-clause-race c = record { counted = refl; planned = (record { source = refl; target = refl; ops = refl; picks = refl }, (record { source = refl; target = refl; ops = refl; picks = refl }, (record { source = refl; target = refl; ops = refl; picks = refl }, (record { source = refl; target = refl; ops = refl; picks = refl }, (record { source = refl; target = refl; ops = refl; picks = refl }, tt))))); numbered = record { different = are_different race_commands refl; in_order = inr (refl, inr (refl, inr (refl, inr (refl, inr (refl, refl))))) } }

pub returns-clause-pool : goal.returns-clause-pool
unfolding hidden-the_row-Stmt-0 hidden
returns-clause-pool c = record { counted = refl; planned = (record { source = refl; target = refl; ops = refl; picks = refl }, (record { source = refl; target = refl; ops = refl; picks = refl }, (record { source = refl; target = refl; ops = refl; picks = refl }, (record { source = refl; target = refl; ops = refl; picks = refl }, (record { source = refl; target = refl; ops = refl; picks = refl }, (record { source = refl; target = refl; ops = refl; picks = refl }, (record { source = refl; target = refl; ops = refl; picks = refl }, (record { source = refl; target = refl; ops = refl; picks = refl }, (record { source = refl; target = refl; ops = refl; picks = refl }, (record { source = refl; target = refl; ops = refl; picks = refl }, (record { source = refl; target = refl; ops = refl; picks = refl }, (record { source = refl; target = refl; ops = refl; picks = refl }, (record { source = refl; target = refl; ops = refl; picks = refl }, (record { source = refl; target = refl; ops = refl; picks = refl }, (record { source = refl; target = refl; ops = refl; picks = refl }, (record { source = refl; target = refl; ops = refl; picks = refl }, tt)))))))))))))))); numbered = record { different = are_different pool_commands refl; in_order = inr (refl, inr (refl, inr (refl, inr (refl, inr (refl, inl (lit< tt, inr (refl, inr (refl, inr (refl, inl (lit< tt, inr (refl, inr (refl, inr (refl, inr (refl, inr (refl, inr (refl, refl)))))))))))))))) } }
