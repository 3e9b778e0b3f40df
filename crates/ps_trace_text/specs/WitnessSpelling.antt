-- How witnesses are spelled, and which ones are within the limits.
use Rattle.std.specs.Prelude.{ℕ, suc, ℤ, ◌≤◌, ◌<◌, ◌^◌, List, [], ◌∷◌, ◌++◌, map, length, decimal, codes, FitsSigned}
use Rattle.std.specs.Fmt.{signed_decimal}
use Rattle.std.specs.Int.{w128}
use Rattle.std.specs.List.{AllByRecursion}
use Rattle.ps_trace.specs.declared.step.Step.{Step}
use Rattle.ps_trace.specs.declared.witness.Witness.{Witness}

-- A line `globals` with their values.
abbrev pub globals_line : List ℤ → List ℕ × List (List ℕ)
globals_line values = (codes "globals", map signed_decimal values)

-- A line `locals` with the thread and its values.
abbrev pub locals_line : ℕ → List ℤ → List ℕ × List (List ℕ)
locals_line thread values = (codes "locals", decimal thread ∷ map signed_decimal values)

-- Such a line for each thread, from this one on.
abbrev pub locals_lines : ℕ → List (List ℤ) → List (List ℕ × List (List ℕ))
locals_lines thread [] = []
locals_lines thread (values ∷ more) = locals_line thread values ∷ locals_lines (suc thread) more

-- A line `step` with the thread and its choices.
abbrev pub step_line : Step → List ℕ × List (List ℕ)
step_line s = (codes "step", decimal s.thread ∷ map signed_decimal s.choices)

-- `witness 1`, the number of threads, the values of the globals, those of each thread's locals, the steps, and `end`.
abbrev pub witness_lines : Witness → List (List ℕ × List (List ℕ))
witness_lines w =
    (codes "witness", codes "1" ∷ []) ∷ (codes "threads", decimal (length w.locals) ∷ []) ∷ globals_line w.globals
    ∷ (locals_lines 0 w.locals ++ (map step_line w.steps ++ ((codes "end", []) ∷ [])))

-- The values are of 128 bits.
abbrev pub ValuesFit : List ℤ → Type 0
ValuesFit values = AllByRecursion (FitsSigned w128) values

-- The thread is of 32 bits, the choices are of 128.
pub record StepFits (s : Step) : Type 0 where
  pub thread : s.thread < 2 ^ 32
  pub choices : ValuesFit s.choices

-- At most 4,096 threads and 1,048,576 steps.
pub record WitnessFits (w : Witness) : Type 0 where
  pub few_threads : length w.locals ≤ 4096
  pub few_steps : length w.steps ≤ 1048576
  pub globals : ValuesFit w.globals
  pub locals : AllByRecursion ValuesFit w.locals
  pub steps : AllByRecursion StepFits w.steps
