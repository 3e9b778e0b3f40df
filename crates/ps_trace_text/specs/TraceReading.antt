-- Reading traces, with the first fault.
use Rattle.std.specs.Prelude.{Result, Ok, codes}
use Rattle.ps_lines.specs.declared.form_fault.FormFault.{FormFault}
use Rattle.ps_lines.specs.Reading.{Position, Read, leaf_at, natural32, line_at, end_at, only_at, done_at, header_at, times_at}
use Rattle.ps_lines.specs.Steps.{◌>>=◌}
use Rattle.ps_trace.specs.declared.trace.IndexedTrace.{IndexedTrace}
use Rattle.ps_trace.specs.declared.trace.Letter.{Letter}

-- A line `step THREAD EDGE`.
unfoldable pub letter_at : Read Letter
letter_at at = do
  w ← line_at (codes "step") at
  thread ← leaf_at natural32 w.1
  edge ← leaf_at natural32 thread.1
  e ← end_at edge.1
  Ok (record { thread = thread.0; edge = edge.0 }, e.1)

-- The whole text: `trace K`, so many letters, `end`, and nothing after it.
unfoldable pub trace_at : Position → Result IndexedTrace FormFault
trace_at at = do
  count ← header_at (codes "trace") 1048576 at
  letters ← times_at letter_at count.0 count.1
  e ← only_at (codes "end") letters.1
  d ← done_at e.1
  Ok (record { letters = letters.0 })
