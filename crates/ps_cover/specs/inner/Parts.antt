-- Lists that are left where members of another are taken out.
use Rattle.std.specs.Prelude.{◌≡◌, ◌≢◌, ℕ, ◌+◌, ◌<◌, ◌≤◌, ◌⊎◌, ◌==◌, Bool, true, false, List, [], ◌∷◌, length, slice_index, if◌then◌else◌}

-- each number is the first one that is left of the second list
abbrev pub is_sublist : List ℕ → List ℕ → Bool
is_sublist [] ys = true
is_sublist (x ∷ xs) [] = false
is_sublist (x ∷ xs) (y ∷ ys) = if x == y then is_sublist xs ys else is_sublist (x ∷ xs) ys

-- one more is found where the number is the next one
abbrev pub IsFoundMore : List ℕ → ℕ → ℕ → ℕ → Type 0
IsFoundMore numbers done number result =
    ((done < length numbers) × (slice_index numbers done ≡ number) × (result ≡ done + 1)) ⊎ (((length numbers ≤ done) ⊎ (slice_index numbers done ≢ number)) × (result ≡ done))
