-- The located threads after a step back.
use Rattle.std.specs.Prelude.{ℕ, List, [], map, Option, Some, None}
use Rattle.std.specs.List.Sorted.{IsStrictlyIncreasing}
use Rattle.ps_config.specs.Configurations.{Configuration}
use Rattle.ps_graph.specs.declared.edge.Edge.{Edge}
use Rattle.ps_graph.specs.declared.graph.Graph.{Graph}
use Rattle.ps_step.specs.Steps.{GoesBack}

-- located threads without atoms
abbrev pub located : List (ℕ × ℕ) → Configuration
located at = record { at = at; atoms = [] }

-- the locations after a step back, in ascending order of threads; none where the step doesn't go back
abbrev pub IsStepTo : Graph → Configuration → Edge → ℕ → Option (List (ℕ × ℕ)) → Type 0
IsStepTo graph from edge thread None = (to : Configuration) → ¬ GoesBack graph from edge thread to
IsStepTo graph from edge thread (Some at) =
    IsStrictlyIncreasing (map (λ (p : ℕ × ℕ). p.0) at) × GoesBack graph from edge thread (located at)
