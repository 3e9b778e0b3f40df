-- Worked examples: parts of a graph that keep all facts but one.
use Rattle.std.specs.Prelude.{◌≡◌, ℕ, pos, Bool, true, false, List, [], ◌∷◌, Option, Some, None}
use Rattle.ps_command.specs.declared.command.Command.{Command}
use Rattle.ps_command.specs.declared.op.Op.TheVariants.{Assign, Havoc}
use Rattle.ps_graph.specs.Examples.{x}
use Rattle.ps_graph.specs.Examples.Connections.{edge, star_edge}
use Rattle.ps_graph.specs.Facts.{names_exist, entries_owned, error_is_final, picks_fit, stay_in_bodies, IsDeterministic}
use Rattle.ps_graph.specs.declared.edge.Edge.{Edge}
use Rattle.ps_graph.specs.declared.edge.Pick.TheVariants.{Star, Value}

-- the fields of a graph that its facts speak of
pub record Parts : Type 0 where
  pub locations : ℕ
  pub edges : List Edge
  pub entries : List ℕ
  pub once : Option ℕ
  pub owner : List (Option ℕ)
  pub commands : List Command

-- names exist, entries belong to their bodies, nothing leaves the error, the picks fit, and edges stay in their bodies
abbrev pub facts : Parts → List Bool
facts g = names_exist g.locations g.edges g.entries g.once g.owner g.commands
    ∷ entries_owned g.owner g.entries ∷ error_is_final g.owner g.edges ∷ picks_fit g.commands g.edges
    ∷ stay_in_bodies g.owner g.edges ∷ []

-- these hold or don't, and the edges are deterministic
abbrev pub Keeps : List Bool → Parts → Type 0
Keeps answers g = (facts g ≡ answers) × IsDeterministic g.commands g.edges

-- one body from 0 to 2, along an edge that sets `x` to 1; another command sets it to 2, and a third havocs it
abbrev pub one_edge : Parts
one_edge = record {
  locations = 3;
  edges = edge 0 2 0 ∷ [];
  entries = 0 ∷ [];
  once = None;
  owner = Some 0 ∷ None ∷ Some 0 ∷ [];
  commands = record { ops = Assign x (record { pairs = []; constant = pos 1 }) ∷ [] }
      ∷ record { ops = Assign x (record { pairs = []; constant = pos 2 }) ∷ [] }
      ∷ record { ops = Havoc x ∷ [] } ∷ [];
}

-- it keeps all facts, and so it does with an edge to the error, with the two ways of a `*`, and where its body may run once
abbrev pub AllAreKept : Type 0
AllAreKept =
    let all : List Bool = true ∷ true ∷ true ∷ true ∷ true ∷ [] in
    Keeps all one_edge
    × Keeps all (record one_edge { edges = edge 0 1 0 ∷ [] })
    × Keeps all (record one_edge { edges = star_edge 0 2 (Star true) ∷ star_edge 0 1 (Star false) ∷ [] })
    × Keeps all (record one_edge { once = Some 0 })
    × Keeps all (record one_edge { edges = record { source = 0; target = 2; command = 2; picks = Value ∷ [] } ∷ [] })

-- a name that doesn't exist: of the error, an edge's source, target and command, the body that runs once, an owner; and
-- an owner too few
abbrev pub NameBroken : Type 0
NameBroken =
    let but_names : List Bool = false ∷ true ∷ true ∷ true ∷ true ∷ [] in
    Keeps but_names (record one_edge { locations = 1; edges = []; owner = Some 0 ∷ [] })
    × Keeps but_names (record one_edge { edges = edge 3 1 0 ∷ [] })
    × Keeps but_names (record one_edge { edges = edge 2 3 0 ∷ []; owner = Some 0 ∷ None ∷ None ∷ [] })
    × Keeps but_names (record one_edge { edges = edge 0 2 3 ∷ [] })
    × Keeps but_names (record one_edge { once = Some 1 })
    × Keeps but_names (record one_edge { edges = []; owner = Some 0 ∷ None ∷ Some 1 ∷ [] })
    × Keeps but_names (record one_edge { edges = []; owner = Some 0 ∷ None ∷ [] })

-- an entry that belongs to no body, or to another one
abbrev pub EntryBroken : Type 0
EntryBroken =
    let but_entries : List Bool = true ∷ false ∷ true ∷ true ∷ true ∷ [] in
    Keeps but_entries (record one_edge { owner = None ∷ None ∷ None ∷ [] })
    × Keeps but_entries (record one_edge { entries = 0 ∷ 2 ∷ [] })

-- an error that belongs to a body, or that an edge leaves
abbrev pub ErrorBroken : Type 0
ErrorBroken =
    let but_error : List Bool = true ∷ true ∷ false ∷ true ∷ true ∷ [] in
    Keeps but_error (record one_edge { owner = Some 0 ∷ Some 0 ∷ Some 0 ∷ [] })
    × Keeps but_error (record one_edge { edges = edge 1 2 0 ∷ []; owner = Some 0 ∷ None ∷ None ∷ [] })

-- a pick of a value without a havoc, and a havoc without one
abbrev pub PicksBroken : Type 0
PicksBroken =
    let but_picks : List Bool = true ∷ true ∷ true ∷ false ∷ true ∷ [] in
    Keeps but_picks (record one_edge { edges = star_edge 0 2 Value ∷ [] })
    × Keeps but_picks (record one_edge { edges = edge 0 2 2 ∷ [] })

-- an edge that leaves its body
abbrev pub BodyBroken : Type 0
BodyBroken = Keeps (true ∷ true ∷ true ∷ true ∷ false ∷ []) (record one_edge { owner = Some 0 ∷ None ∷ None ∷ [] })

-- these hold, and the edges aren't deterministic
abbrev pub IsAmbiguous : Parts → Type 0
IsAmbiguous g = (facts g ≡ true ∷ true ∷ true ∷ true ∷ true ∷ []) × (IsDeterministic g.commands g.edges → ⊥)

-- of one location, two edges that give different values, and two that lead to different locations
abbrev pub ChoiceBroken : Type 0
ChoiceBroken = IsAmbiguous (record one_edge { edges = edge 0 2 0 ∷ edge 0 2 1 ∷ [] })
    × IsAmbiguous (record one_edge { edges = edge 0 2 0 ∷ edge 0 1 0 ∷ [] })
