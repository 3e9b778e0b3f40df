-- Listed configurations by the locations of their threads, where those that begin with the same locations stand side by side.
use Rattle.std.specs.Prelude.{◌≡◌, ℕ, ◌≤◌, ◌<◌, ◌+◌, ◌⊎◌, List, length, map, take, Contains, Some, slice_get}
use Rattle.ps_atom.specs.declared.atom.Atom.{Atom}
use Rattle.ps_check.specs.declared.located.Located.{Located}
use Rattle.ps_config.specs.Configurations.{Configuration, Covers}
use Rattle.ps_config.specs.Forms.{IsConfig}
use Rattle.ps_cover.specs.Within.{IsWithinList, times}

-- the locations of the threads
abbrev pub locations_of : List (ℕ × ℕ) → List ℕ
locations_of at = map (λ (p : ℕ × ℕ). p.1) at

-- the configuration of this number has these locations, each as often
pub record IsLocated (configurations : List Configuration) (located : Located) : Type 0 where
  pub config : Configuration
  pub is : slice_get configurations located.number ≡ Some config
  pub form : IsConfig config
  pub same : (n : ℕ) → times n located.locations.items ≡ times n (locations_of config.at)

-- each is one of the configurations, and each of these before this number is there
pub record AreLocated (configurations : List Configuration) (number : ℕ) (located : List Located) : Type 0 where
  pub many : length located ≡ number
  pub each : (l : Located) → Contains located l → IsLocated configurations l
  pub all : (k : ℕ) → k < number → (l : Located) × Contains located l × (l.number ≡ k)

-- from the start on, up to the place, all begin with so many of the same locations
abbrev pub AreAlike : List Located → ℕ → ℕ → ℕ → Type 0
AreAlike located start place count = (k : ℕ) (one other : Located) → start ≤ k → k ≤ place → slice_get located k ≡ Some one → slice_get located place ≡ Some other
    → take count one.locations.items ≡ take count other.locations.items

-- for the first location of the one at this place, for its first two, and so on, a start from which on all begin with these
pub record AreStartsOf (located : List Located) (place : ℕ) (starts : List ℕ) : Type 0 where
  pub many : (l : Located) → slice_get located place ≡ Some l → length starts ≡ length l.locations.items
  pub each : (k start : ℕ) → slice_get starts k ≡ Some start → (start ≤ place) × AreAlike located start place (k + 1)

-- the starts of those before this place
pub record AreStartsBefore (located : List Located) (place : ℕ) (starts : List (List ℕ)) : Type 0 where
  pub many : length starts ≡ place
  pub each : (k : ℕ) (own : List ℕ) → slice_get starts k ≡ Some own → AreStartsOf located k own

-- as long as fewer locations are meant than the one before shares, the start is that of the one before; else it is the place
abbrev pub IsStart : List ℕ → ℕ → ℕ → ℕ → ℕ → Type 0
IsStart before shared place k start = ((k < shared) × (slice_get before k ≡ Some start)) ⊎ ((shared ≤ k) × (start ≡ place))

pub record AreStartsAfter (before : List ℕ) (shared place count : ℕ) (starts : List ℕ) : Type 0 where
  pub many : length starts ≡ count
  pub each : (k start : ℕ) → slice_get starts k ≡ Some start → IsStart before shared place k start

-- configurations by their locations, with the starts of all
pub record IsIndexed (configurations : List Configuration) (located : List Located) (starts : List (List ℕ)) : Type 0 where
  pub listed : AreLocated configurations (length configurations) located
  pub begun : AreStartsBefore located (length located) starts

-- the locations up to the one at this place aren't within the others
pub record IsBeyond (locations others : List ℕ) (place : ℕ) : Type 0 where
  pub inside : place < length locations
  pub beyond : ¬ IsWithinList (take (place + 1) locations) others

-- the numbers of all whose locations are within the others, each at most as often
pub record AreThoseWithin (located : List Located) (others numbers : List ℕ) : Type 0 where
  pub only : (n : ℕ) → Contains numbers n → (l : Located) × Contains located l × (l.number ≡ n) × IsWithinList l.locations.items others
  pub all : (l : Located) → Contains located l → IsWithinList l.locations.items others → Contains numbers l.number

-- the numbers of configurations whose locations are within those of the threads, among them all that cover something with
-- these located threads
pub record AreCandidates (configurations : List Configuration) (at : List (ℕ × ℕ)) (numbers : List ℕ) : Type 0 where
  pub only : (n : ℕ) → Contains numbers n → (c : Configuration) × (slice_get configurations n ≡ Some c) × IsWithinList (locations_of c.at) (locations_of at)
  pub all : (n : ℕ) (c : Configuration) (atoms : List Atom) → slice_get configurations n ≡ Some c → Covers c (record { at = at; atoms = atoms }) → Contains numbers n
