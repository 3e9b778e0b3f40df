-- Paths of pairs of nodes, and links to dropped ones.
use Rattle.std.specs.Prelude.{◌≡◌, ℕ, List, [], ◌∷◌, Contains}
use Rattle.ps_drop.specs.declared.pair.Pair.{Pair}

-- one of the pairs is of this node and this other
abbrev pub NamesPair : List Pair → ℕ → ℕ → Type 0
NamesPair pairs node other = Contains pairs (record { node = node; other = other })

-- the path goes from the node to the end, each time from a node to one that a pair names as its other
abbrev pub IsPath : List Pair → ℕ → List ℕ → ℕ → Type 0
IsPath pairs node [] end = node ≡ end
IsPath pairs node (next ∷ path) end = NamesPair pairs node next × IsPath pairs next path end

-- some path goes from the node to the end: the node is the end itself, or below it
abbrev pub Leads : List Pair → ℕ → ℕ → Type 0
Leads pairs node end = (path : List ℕ) × IsPath pairs node path end

-- the node has a link to one of the dropped
abbrev pub Leans : List Pair → List ℕ → ℕ → Type 0
Leans links dropped node = (other : ℕ) × Contains dropped other × NamesPair links node other
