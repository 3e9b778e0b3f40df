-- Steps of many threads, each of which has its locals and is somewhere: at a rest of statements, or at a location.
use Rattle.std.specs.Prelude.{ℕ, zero, suc, ℤ, List, [], ◌∷◌, Option, Some, None, option_map}
use Rattle.std.specs.Option.{option_and_then}
use Rattle.ps_command.specs.Values.{Values}

-- the locals of one thread, and where it is
pub record Seat (At : Type 0) : Type 0 where
  pub locals : List ℤ
  pub at : At

-- the globals, and every thread
pub record World (At : Type 0) : Type 0 where
  pub globals : List ℤ
  pub seats : List (Seat At)

-- what one thread does in one step: from where it is, from the values that it sees, with choices
abbrev pub Stepping : Type 0 → Type 0
Stepping At = At → Values → List ℤ → Option (Values × At)

-- the step of the thread of this number, the others staying as they are
abbrev pub step_at : {At : Type 0} → Stepping At → ℕ → List ℤ → List (Seat At) → List ℤ → Option (World At)
step_at {At} one k globals [] cs = None
step_at {At} one zero globals (t ∷ ts) cs =
    option_map (λ (q : Values × At). record { globals = q.0.globals; seats = record { locals = q.0.locals; at = q.1 } ∷ ts })
    (one t.at (record { globals = globals; locals = t.locals }) cs)
step_at {At} one (suc k) globals (t ∷ ts) cs =
    option_map (λ (w : World At). record { globals = w.globals; seats = t ∷ w.seats }) (step_at one k globals ts cs)

-- one step of a world: the thread that moves, and its choices
abbrev pub moved : {At : Type 0} → Stepping At → ℕ × List ℤ → World At → Option (World At)
moved one m w = step_at one m.0 w.globals w.seats m.1

-- steps one after another
abbrev pub all_moved : {At : Type 0} → Stepping At → List (ℕ × List ℤ) → World At → Option (World At)
all_moved one [] w = Some w
all_moved one (m ∷ ms) w = option_and_then (all_moved one ms) (moved one m w)
