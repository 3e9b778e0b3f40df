-- Steps along listed edges, and what code keeps of the world.
use Rattle.std.specs.Prelude.{◌≡◌, ℕ, ℤ, List, [], ◌∷◌, length, map, Option, None, option_map}
use Rattle.std.specs.List.{AllByRecursion}
use Rattle.ps_command.specs.Values.{Values}
use Rattle.ps_command.specs.declared.command.Command.{Command}
use Rattle.ps_command.specs.declared.setting.Setting.{Setting}
use Rattle.ps_graph.specs.Facts.{after_edge}
use Rattle.ps_graph.specs.Threads.{Seat, World}
use Rattle.ps_graph.specs.declared.edge.Edge.{Edge}
use Rattle.ps_trace.specs.Replay.{EdgeFits, or_else}
use Rattle.ps_trace.specs.declared.seat.Seat.{Seat as Kept}

-- the step along the first of these edges whose picks the choices fit and whose command runs, whatever it leaves
abbrev pub along_listed : List Command → List Edge → Values → List ℤ → Option (Values × ℕ)
along_listed commands [] v cs = None
along_listed commands (e ∷ es) v cs = or_else (option_map (λ (w : Values). (w, e.target)) (after_edge commands e v cs)) (along_listed commands es v cs)

-- each of them that is tried runs within 128 bits
abbrev pub ListedFit : List Command → List Edge → Values → List ℤ → Type 0
ListedFit commands [] v cs = Unit {0}
ListedFit commands (e ∷ es) v cs = EdgeFits commands e v cs × (after_edge commands e v cs ≡ None → ListedFit commands es v cs)

-- there is a value for each declared variable
pub record AreSized (setting : Setting) (v : Values) : Type 0 where
  pub globals : length v.globals ≡ setting.globals
  pub locals : length v.locals ≡ setting.locals

-- a thread as code keeps it
abbrev pub seat_of : Kept → Seat ℕ
seat_of s = record { locals = s.locals.items; at = s.at }

-- threads with these locals, each at the location
abbrev pub seats_from : ℕ → List (List ℤ) → List (Seat ℕ)
seats_from a lss = map (λ (ls : List ℤ). let u : Seat ℕ = record { locals = ls; at = a } in u) lss

-- the values that it sees
abbrev pub seen_from : List ℤ → Kept → Values
seen_from globals s = record { globals = globals; locals = s.locals.items }

-- the world of these globals and threads
abbrev pub world_from : List ℤ → List Kept → World ℕ
world_from globals seats = record { globals = globals; seats = map seat_of seats }

-- there is a value for each declared variable, of each thread
pub record IsSizedWorld (setting : Setting) (w : World ℕ) : Type 0 where
  pub globals : length w.globals ≡ setting.globals
  pub seats : AllByRecursion (λ (u : Seat ℕ). length u.locals ≡ setting.locals) w.seats
