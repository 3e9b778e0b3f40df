-- Which sets the chosen numbers meet, and how often.
use Rattle.std.specs.Prelude.{◌≡◌, ◌≢◌, ℕ, ◌+◌, Bool, true, false, ◌==◌, List, [], ◌∷◌, Contains, Any, if◌then◌else◌}
use Rattle.std.specs.List.{list_any}
use Rattle.ps_hit.specs.declared.cover.Cover.{Cover}
use Rattle.ps_hit.specs.declared.cover.Cover.TheVariants.{Unmet, Once, Again}
use Rattle.ps_hit.specs.Hitting.{Meets}

-- the cover tells which of the chosen numbers the set has
abbrev pub IsCover : List ℕ → List ℕ → Cover → Type 0
IsCover chosen set Unmet = ¬ Meets chosen set
IsCover chosen set (Once n) = Contains chosen n × Contains set n × ((m : ℕ) → Contains chosen m → Contains set m → m ≡ n)
IsCover chosen set Again = (m : ℕ) × (n : ℕ) × (m ≢ n) × Contains chosen m × Contains chosen n × Contains set m × Contains set n

-- the cover once another number is chosen, which the set has or not
abbrev pub cover_with : Cover → ℕ → Bool → Cover
cover_with cover n false = cover
cover_with Unmet n true = Once n
cover_with (Once m) n true = Again
cover_with Again n true = Again

-- the cover once one more number of the set is seen, which is chosen or not
abbrev pub cover_seen : Cover → ℕ → Bool → Cover
cover_seen cover n false = cover
cover_seen Unmet n true = Once n
cover_seen (Once m) n true = if m == n then Once m else Again
cover_seen Again n true = Again

-- the cover of each set once another number is chosen
abbrev pub covers_with : ℕ → List (List ℕ) → List Cover → List Cover
covers_with n [] covers = []
covers_with n (set ∷ sets) [] = []
covers_with n (set ∷ sets) (cover ∷ covers) = cover_with cover n (list_any (λ m. m == n) set) ∷ covers_with n sets covers

-- some set has this number alone of those chosen
abbrev pub HasOwn : List Cover → ℕ → Type 0
HasOwn covers n = Any (λ cover. cover ≡ Once n) covers

-- how many sets are unmet
abbrev pub unmet : List Cover → ℕ
unmet [] = 0
unmet (Unmet ∷ covers) = 1 + unmet covers
unmet (Once _ ∷ covers) = unmet covers
unmet (Again ∷ covers) = unmet covers
