-- Which vectors stay, one by one.
use Rattle.std.specs.Prelude.{ℕ, ◌+◌, Bool, not, ◌&&◌, ◌||◌, List, [], ◌∷◌, ◌++◌, take, drop, slice_index_or, if◌then◌else◌}
use Rattle.ps_elim.specs.Supports.{has_support_of, is_less, is_new_after, is_strictly_inside, stays_beside}

-- the first vector stays where the second one is there
abbrev pub stays_by : List ℕ → List ℕ → Bool
stays_by v u = not (is_strictly_inside u v) && not (has_support_of u v && is_less u v)

-- the two are different vectors of one length
abbrev pub differs : List ℕ → List ℕ → Bool
differs v u = is_less u v || is_less v u

-- the vector stays between those before it and those after it
abbrev pub stays_between : List (List ℕ) → List ℕ → List (List ℕ) → Bool
stays_between before v after = stays_beside before v && stays_beside after v && is_new_after before v

-- the vector of this place stays
abbrev pub stays_at : List (List ℕ) → ℕ → Bool
stays_at vs k = stays_between (take k vs) (slice_index_or vs k []) (drop (k + 1) vs)

-- for each of those after the ones before, whether it stays
abbrev pub staying_after : List (List ℕ) → List (List ℕ) → List Bool
staying_after before [] = []
staying_after before (v ∷ after) = stays_between before v after ∷ staying_after (before ++ v ∷ []) after

abbrev pub staying : List (List ℕ) → List Bool
staying vs = staying_after [] vs

-- those that are marked, in their order
abbrev pub marked : {X : Type 0} → List Bool → List X → List X
marked [] xs = []
marked (m ∷ ms) [] = []
marked (m ∷ ms) (x ∷ xs) = if m then x ∷ marked ms xs else marked ms xs
