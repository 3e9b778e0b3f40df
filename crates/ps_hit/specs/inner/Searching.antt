-- The nodes of the search, and what becomes of one.
use Rattle.std.specs.Prelude.{◌≡◌, ℕ, zero, suc, ◌-◌, ◌+◌, ◌*◌, ◌≤◌, ◌⊎◌, List, [], ◌∷◌, ◌++◌, length, All, Contains, nat_eq}
use Rattle.std.specs.List.{AllZip, IsDistinct}
use Rattle.ps_hit.specs.declared.node.Node.{Node}
use Rattle.ps_hit.specs.Hitting.{Meets, IsSubset, IsMinimalHit}
use Rattle.ps_hit.specs.inner.Covers.{IsCover, HasOwn, covers_with, unmet}

-- the covers are those of the chosen numbers, each of which is the only chosen one of some set
pub record IsNode (sets : List (List ℕ)) (node : Node) : Type 0 where
  pub covers : AllZip (IsCover node.chosen.items) sets node.covers.items
  pub own : All (λ number. HasOwn node.covers.items number) node.chosen.items
  pub distinct : IsDistinct nat_eq node.chosen.items

-- the number is alone in some set
abbrev pub IsLone : List (List ℕ) → ℕ → Type 0
IsLone sets number = Contains sets (number ∷ [])

-- the set has what the node chose, and nothing that it barred
pub record IsUnderNode (node : Node) (hit : List ℕ) : Type 0 where
  pub chosen : IsSubset node.chosen.items hit
  pub barred : ¬ Meets node.barred.items hit

-- the child has one more number
pub record IsChild (sets : List (List ℕ)) (node : Node) (number : ℕ) (passed : List ℕ) (child : Node) : Type 0 where
  pub chosen : child.chosen.items ≡ node.chosen.items ++ number ∷ []
  pub barred : child.barred.items ≡ passed
  pub covers : child.covers.items ≡ covers_with number sets node.covers.items
  pub own : All (λ n. HasOwn child.covers.items n) child.chosen.items

-- with this number some chosen one is not the only one of any set
abbrev pub HasNoChild : List (List ℕ) → Node → ℕ → Type 0
HasNoChild sets node number =
    ¬ All (λ n. HasOwn (covers_with number sets node.covers.items) n) (node.chosen.items ++ number ∷ [])

-- the work below a node: at most so many nodes, where no set has as many numbers as `most`
abbrev pub work : ℕ → ℕ → ℕ
work most zero = 1
work most (suc unmet) = most * work most unmet

-- the work below all these nodes
abbrev pub works : ℕ → List Node → ℕ
works most [] = 0
works most (node ∷ nodes) = work most (unmet node.covers.items) + works most nodes

-- the node's number went to waiting as a child, or to none where no child can be
abbrev pub AddsChild : List (List ℕ) → Node → ℕ → List ℕ → List Node → List Node → Type 0
AddsChild sets node number passed before after =
    ((after ≡ before) × HasNoChild sets node number) ⊎ ((child : Node) × (after ≡ before ++ child ∷ []) × IsChild sets node number passed child)

-- the children of a node at an unmet set wait: each minimal hitting set below the node is below one of them
pub record Branches (sets : List (List ℕ)) (node : Node) (set : List ℕ) (before after : List Node) : Type 0 where
  pub nodes : All (IsNode sets) before → All (IsNode sets) after
  pub stays : (other : Node) → Contains before other → Contains after other
  pub reached : (hit : List ℕ) → IsMinimalHit sets hit → IsUnderNode node hit → Meets hit set → (child : Node) × Contains after child × IsUnderNode child hit
  pub work_falls : (most : ℕ) → 1 ≤ most → works most after ≤ works most before + length set * work most (unmet node.covers.items - 1)
