-- One turn of the search for the nodes below a node.
use Rattle.std.specs.Prelude.{◌≡◌, ℕ, ◌+◌, ◌≤◌, ◌⊎◌, List, [], ◌∷◌, if◌then◌else◌, length, All, Contains, IsTrue}
use Rattle.std.specs.BTreeSet.{BTreeSet, contains}
use Rattle.std.specs.Ordering.{nat_cmp}
use Rattle.ps_drop.specs.declared.pair.Pair.{Pair}

-- the pairs of one parent are these children
pub record AreChildren (pairs : List Pair) (parent : ℕ) (children : List Pair) : Type 0 where
  pub only : All (λ (pair : Pair). Contains pairs pair × (pair.other ≡ parent)) children
  pub every : (pair : Pair) → Contains pairs pair → pair.other ≡ parent → Contains children pair

-- the node was found
abbrev pub Has : BTreeSet ℕ → ℕ → Type 0
Has found node = IsTrue (contains nat_cmp found node)

-- how many of the pairs are of a node that was not found yet
abbrev pub unfound : BTreeSet ℕ → List Pair → ℕ
unfound found [] = 0
unfound found (pair ∷ pairs) = (if contains nat_cmp found pair.node then 0 else 1) + unfound found pairs

-- of the children those done were found, and what is new waits
pub record Visits (children done : List Pair) (found : BTreeSet ℕ) (waiting : List ℕ) (now : BTreeSet ℕ) (left : List ℕ) : Type 0 where
  pub children_found : All (λ pair. Has now pair.node) done
  pub only_children : (n : ℕ) → Has now n → Has found n ⊎ ((pair : Pair) × Contains done pair × (pair.node ≡ n))
  pub found_stays : (n : ℕ) → Has found n → Has now n
  pub new_waits : (n : ℕ) → Has now n → Has found n ⊎ Contains left n
  pub waiting_found : (n : ℕ) → Contains left n → Contains waiting n ⊎ Has now n
  pub waiting_stays : (n : ℕ) → Contains waiting n → Contains left n
  pub work_falls : (pairs : List Pair) → All (Contains pairs) children → length left + unfound now pairs ≤ length waiting + unfound found pairs
