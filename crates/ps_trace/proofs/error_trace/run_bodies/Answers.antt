use Rattle.ps_trace.proofs.error_trace.run_bodies.Goals as goal

pub returns-then-are_paths : goal.returns-then-are_paths
returns-then-are_paths c = (λ t. (c.are_paths.ensures.0 c.if-are_paths.true, c.begin_once_at_most.ensures.0 t), λ h. c.begin_once_at_most.ensures.1 h.1)
