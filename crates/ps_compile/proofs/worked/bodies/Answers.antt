use denote.Hole.Carrier.{hidden}
use Rattle.std.proofs.Common.{refl, inl, inr, lit<, []}
use Rattle.ps_compile.proofs.Examples.{are_different}
use Rattle.ps_compile.proofs.worked.bodies.Goals as goal
use Rattle.ps_compile.specs.Examples.Bodies.{branch_commands, lock_commands, loop_commands, nested_commands}
use Rattle.ps_graph.specs.Examples.Connections.{counter_commands, idle_commands}
use Rattle.ps_tree.specs.declared.stmt.StmtKind.TheBlock.{hidden-the_row-Stmt-0}

pub returns-clause-counter : goal.returns-clause-counter
unfolding hidden-the_row-Stmt-0 hidden
returns-clause-counter c = record { counted = refl; planned = (record { source = refl; target = refl; ops = refl; picks = refl }, (record { source = refl; target = refl; ops = refl; picks = refl }, (record { source = refl; target = refl; ops = refl; picks = refl }, tt))); numbered = record { different = are_different counter_commands refl; in_order = inr (refl, inr (refl, inr (refl, refl))) } }

pub returns-clause-branch : goal.returns-clause-branch
unfolding hidden-the_row-Stmt-0 hidden
returns-clause-branch c = record { counted = refl; planned = (record { source = refl; target = refl; ops = refl; picks = refl }, (record { source = refl; target = refl; ops = refl; picks = refl }, (record { source = refl; target = refl; ops = refl; picks = refl }, (record { source = refl; target = refl; ops = refl; picks = refl }, (record { source = refl; target = refl; ops = refl; picks = refl }, (record { source = refl; target = refl; ops = refl; picks = refl }, (record { source = refl; target = refl; ops = refl; picks = refl }, (record { source = refl; target = refl; ops = refl; picks = refl }, tt)))))))); numbered = record { different = are_different branch_commands refl; in_order = inr (refl, inr (refl, inl (lit< tt, inl (lit< tt, inr (refl, inr (refl, inl (lit< tt, inl (lit< tt, refl)))))))) } }

pub returns-clause-lock : goal.returns-clause-lock
unfolding hidden-the_row-Stmt-0 hidden
returns-clause-lock c = record { counted = refl; planned = (record { source = refl; target = refl; ops = refl; picks = refl }, (record { source = refl; target = refl; ops = refl; picks = refl }, (record { source = refl; target = refl; ops = refl; picks = refl }, (record { source = refl; target = refl; ops = refl; picks = refl }, (record { source = refl; target = refl; ops = refl; picks = refl }, tt))))); numbered = record { different = are_different lock_commands refl; in_order = inr (refl, inr (refl, inr (refl, inr (refl, inr (refl, refl))))) } }

pub returns-clause-repeat : goal.returns-clause-repeat
unfolding hidden-the_row-Stmt-0 hidden
returns-clause-repeat c = record { counted = refl; planned = (record { source = refl; target = refl; ops = refl; picks = refl }, (record { source = refl; target = refl; ops = refl; picks = refl }, (record { source = refl; target = refl; ops = refl; picks = refl }, (record { source = refl; target = refl; ops = refl; picks = refl }, (record { source = refl; target = refl; ops = refl; picks = refl }, (record { source = refl; target = refl; ops = refl; picks = refl }, tt)))))); numbered = record { different = are_different loop_commands refl; in_order = inr (refl, inr (refl, inr (refl, inl (lit< tt, inr (refl, inr (refl, refl)))))) } }

pub returns-clause-nested : goal.returns-clause-nested
unfolding hidden-the_row-Stmt-0 hidden
returns-clause-nested c = record { counted = refl; planned = (record { source = refl; target = refl; ops = refl; picks = refl }, (record { source = refl; target = refl; ops = refl; picks = refl }, (record { source = refl; target = refl; ops = refl; picks = refl }, tt))); numbered = record { different = are_different nested_commands refl; in_order = inr (refl, inr (refl, inr (refl, refl))) } }

pub returns-clause-blocks : goal.returns-clause-blocks
unfolding hidden-the_row-Stmt-0 hidden
returns-clause-blocks c = record { counted = refl; planned = (record { source = refl; target = refl; ops = refl; picks = refl }, (record { source = refl; target = refl; ops = refl; picks = refl }, (record { source = refl; target = refl; ops = refl; picks = refl }, (record { source = refl; target = refl; ops = refl; picks = refl }, (record { source = refl; target = refl; ops = refl; picks = refl }, (record { source = refl; target = refl; ops = refl; picks = refl }, tt)))))); numbered = record { different = are_different idle_commands refl; in_order = inr (refl, inl (lit< tt, inl (lit< tt, inl (lit< tt, inl (lit< tt, inl (lit< tt, refl)))))) } }

pub returns-clause-empty : goal.returns-clause-empty
unfolding hidden-the_row-Stmt-0 hidden
returns-clause-empty c = (record { counted = refl; planned = tt; numbered = record { different = are_different [] refl; in_order = refl } }, record { counted = refl; planned = (record { source = refl; target = refl; ops = refl; picks = refl }, (record { source = refl; target = refl; ops = refl; picks = refl }, tt)); numbered = record { different = are_different idle_commands refl; in_order = inr (refl, inl (lit< tt, refl)) } }, record { counted = refl; planned = (record { source = refl; target = refl; ops = refl; picks = refl }, (record { source = refl; target = refl; ops = refl; picks = refl }, tt)); numbered = record { different = are_different idle_commands refl; in_order = inr (refl, inl (lit< tt, refl)) } }, record { counted = refl; planned = (record { source = refl; target = refl; ops = refl; picks = refl }, tt); numbered = record { different = are_different idle_commands refl; in_order = inr (refl, refl) } })

pub returns-clause-entries : goal.returns-clause-entries
returns-clause-entries c = (record { source = refl; target = refl; ops = refl; picks = refl }, (record { source = refl; target = refl; ops = refl; picks = refl }, tt))
