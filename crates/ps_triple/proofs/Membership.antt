-- What holds of each member, and members of places that are there.
use Rattle.std.proofs.Common.{◌≡◌, ◌<◌, ℕ, zero, suc, List, [], ◌∷◌, length, get_or, refl, Contains, All, arith}
use Rattle.std.proofs.lemmas.List.Elements.{All-weaker, All-contains_itself}

-- what holds of each member holds of all
pub all_of : {X : Type 0} (P : X → Type 0) (xs : List X) → ((x : X) → Contains xs x → P x) → All P xs
all_of P xs f = All-weaker (Contains xs) P f xs (All-contains_itself xs)

-- a place that is there has its member whatever else stands past the end
pub any_default : {X : Type 0} (xs : List X) (k : ℕ) (c d : X) → k < length xs → get_or xs k c ≡ get_or xs k d
any_default [] k c d h = let none_such : ⊥ = omega (arith, h) in absurd none_such
any_default (x ∷ xs) zero c d h = refl
any_default (x ∷ xs) (suc k) c d h = let i : k < length xs = omega (arith, h) in any_default xs k c d i
