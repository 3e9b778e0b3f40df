-- Reading witnesses, with the first fault.
use Rattle.std.specs.Prelude.{ℕ, zero, suc, ◌+◌, ◌==◌, ℤ, List, [], ◌∷◌, Option, Some, None, Result, Ok, Err, codes, if◌then◌else◌}
use Rattle.ps_lines.specs.declared.form_fault.FormFault.{FormFault}
use Rattle.ps_lines.specs.declared.form_name.FormName.{FormName}
use Rattle.ps_lines.specs.declared.form_name.FormName.TheVariants as name
use Rattle.ps_lines.specs.declared.until.Until.TheVariants.{LineEnd}
use Rattle.ps_lines.specs.Reading.{Position, Read, leaf_at, natural32, integer, word_at, line_at, end_at, only_at, done_at, header_at, list_at, while_at}
use Rattle.ps_lines.specs.Steps.{◌>>=◌}
use Rattle.ps_lines.specs.Until.{goes}
use Rattle.ps_trace.specs.declared.step.Step.{Step}
use Rattle.ps_trace.specs.declared.witness.Witness.{Witness}

-- Values up to the end of the line.
unfoldable pub values_at : Read (List ℤ)
values_at at = do
  values ← list_at (goes LineEnd) (λ _. integer) (λ _ x. Some x) None at
  e ← end_at values.1
  Ok (values.0, e.1)

-- The line `witness 1`.
unfoldable pub version_at : Read (Unit {0})
version_at at = do
  w ← line_at (codes "witness") at
  v ← word_at (codes "1") w.1
  end_at v.1

-- A line `globals` with values.
unfoldable pub globals_at : Read (List ℤ)
globals_at at = do
  w ← line_at (codes "globals") at
  values_at w.1

-- The thread after the one before, the first being 0.
abbrev pub next_thread : Option ℕ → ℕ
next_thread None = 0
next_thread (Some n) = n + 1

-- A number that is the one that is due.
abbrev pub if_due : ℕ → Result ℕ FormName → Result ℕ FormName
if_due due (Ok n) = if n == due then Ok n else Err name.Number
if_due due (Err what) = Err what

-- A field with the number of the thread after the one before.
abbrev pub due_thread : Option ℕ → List ℕ → Result ℕ FormName
due_thread before field = if_due (next_thread before) (natural32 field)

-- A line `locals` with the number of this thread, and values.
unfoldable pub locals_at : Option ℕ → Read (List ℤ)
locals_at before at = do
  w ← line_at (codes "locals") at
  t ← leaf_at (due_thread before) w.1
  values_at t.1

-- Such a line for each thread that is left, after the one before.
unfoldable pub all_locals_at : Option ℕ → ℕ → Read (List (List ℤ))
all_locals_at before zero at = Ok ([], at)
all_locals_at before (suc left) at = do
  x ← locals_at before at
  xs ← all_locals_at (Some (next_thread before)) left x.1
  Ok (x.0 ∷ xs.0, xs.1)

-- A line `step` with a thread and choices.
unfoldable pub step_at : Read Step
step_at at = do
  w ← line_at (codes "step") at
  thread ← leaf_at natural32 w.1
  choices ← values_at thread.1
  Ok (record { thread = thread.0; choices = choices.0 }, choices.1)

-- The whole text, and nothing after it.
unfoldable pub witness_at : Position → Result Witness FormFault
witness_at at = do
  v ← version_at at
  count ← header_at (codes "threads") 4096 v.1
  globals ← globals_at count.1
  locals ← all_locals_at None count.0 globals.1
  steps ← while_at (codes "step") step_at 1048576 locals.1
  e ← only_at (codes "end") steps.1
  d ← done_at e.1
  Ok (record { globals = globals.0; locals = locals.0; steps = steps.0 })
