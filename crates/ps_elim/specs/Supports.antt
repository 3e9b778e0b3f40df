-- The supports of vectors, which are the places at which they aren't 0, and the vectors that stay for their supports.
use Rattle.std.specs.Prelude.{ℕ, Bool, true, false, not, ◌&&◌, ◌||◌, ◌==◌, nat_lt, IsTrue, List, [], ◌∷◌, ◌++◌, Contains, if◌then◌else◌}
use Rattle.std.specs.List.{list_all}

-- the second vector isn't 0 where the first isn't
abbrev pub is_inside : List ℕ → List ℕ → Bool
is_inside [] ns = true
is_inside (m ∷ ms) [] = m == 0 && is_inside ms []
is_inside (m ∷ ms) (n ∷ ns) = (m == 0 || not (n == 0)) && is_inside ms ns

-- the support of the second strictly contains that of the first
abbrev pub is_strictly_inside : List ℕ → List ℕ → Bool
is_strictly_inside u v = is_inside u v && not (is_inside v u)

-- the two have one support
abbrev pub has_support_of : List ℕ → List ℕ → Bool
has_support_of u v = is_inside u v && is_inside v u

-- lexicographic order, entry by entry
abbrev pub is_less : List ℕ → List ℕ → Bool
is_less [] [] = false
is_less [] (n ∷ ns) = true
is_less (m ∷ ms) [] = false
is_less (m ∷ ms) (n ∷ ns) = nat_lt m n || (m == n && is_less ms ns)

-- no vector of the list has a support strictly inside that of the vector, or the same support and is less
abbrev pub stays_beside : List (List ℕ) → List ℕ → Bool
stays_beside us v = list_all (λ u. not (is_strictly_inside u v) && not (has_support_of u v && is_less u v)) us

-- no vector of the list is the vector
abbrev pub is_new_after : List (List ℕ) → List ℕ → Bool
is_new_after us v = list_all (λ u. is_less u v || is_less v u) us

-- Of the vectors after those before, the ones that stay beside all, each once, in their order.
abbrev pub kept_after : List (List ℕ) → List (List ℕ) → List (List ℕ)
kept_after before [] = []
kept_after before (v ∷ after) =
    if stays_beside before v && stays_beside after v && is_new_after before v
    then v ∷ kept_after (before ++ v ∷ []) after
    else kept_after (before ++ v ∷ []) after

-- Those whose support strictly contains that of no other one, and of several with one support the least.
abbrev pub kept : List (List ℕ) → List (List ℕ)
kept vs = kept_after [] vs

-- one of the vectors, of which none has a support strictly inside its own, and none with the same support is less
pub record IsLeastIn (vs : List (List ℕ)) (v : List ℕ) : Type 0 where
  pub is_in : Contains vs v
  pub minimal : (u : List ℕ) → Contains vs u → ¬ IsTrue (is_strictly_inside u v)
  pub least : (u : List ℕ) → Contains vs u → IsTrue (has_support_of u v) → ¬ IsTrue (is_less u v)
