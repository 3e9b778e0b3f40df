-- Steps in columns: the threads, where the choices of each step end, and all choices one after the other.
use Rattle.std.specs.Prelude.{◌≡◌, ℕ, ℤ, ◌≤◌, List, [], ◌∷◌, length, slice_range}
use Rattle.ps_trace.specs.declared.step.Step.{Step}

-- the steps of these threads, where the choices of the first begin at `start`, and those of each other where the ones before end
abbrev pub steps_from : ℕ → List ℕ → List ℕ → List ℤ → List Step
steps_from start [] ends choices = []
steps_from start (t ∷ ts) [] choices = []
steps_from start (t ∷ ts) (e ∷ es) choices = record { thread = t; choices = slice_range choices start e } ∷ steps_from e ts es choices

-- from `start` on the ends ascend, and the last one is this
abbrev pub AreEnds : ℕ → List ℕ → ℕ → Type 0
AreEnds start [] last = start ≡ last
AreEnds start (e ∷ es) last = (start ≤ e) × AreEnds e es last

-- each thread has an end, and the choices end with the last step
pub record AreColumns (threads ends : List ℕ) (choices : List ℤ) : Type 0 where
  pub each : length threads ≡ length ends
  pub ascend : AreEnds 0 ends (length choices)
