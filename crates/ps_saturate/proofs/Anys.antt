-- Walks that look for a member.
use Rattle.std.proofs.Common.{◌≡◌, ◌<◌, ◌≤◌, ◌+◌, ℕ, suc, Bool, true, false, ◌||◌, List, [], ◌∷◌, map, length, drop, get_or, refl, sym, ap, ◌∙◌, add-one}
use Rattle.std.specs.List.{list_any}
use Rattle.std.proofs.lemmas.List.{drop_all}
use Rattle.std.proofs.Math.Seq.{drop-cons}

-- what is left begins with the member at the place
pub left_at : {X : Type 0} (xs : List X) (i : ℕ) (x : X) → i < length xs → x ≡ get_or xs i x → drop i xs ≡ x ∷ drop (i + 1) xs
left_at {X} xs i x within is =
    drop-cons xs i x within
    ∙ ap (λ (y : X). y ∷ drop (suc i) xs) (sym is)
    ∙ (let e : suc i ≡ i + 1 = sym (add-one i) in ap (λ (n : ℕ). x ∷ drop n xs) e)

any_at : {X : Type 0} (p : X → Bool) (xs : List X) (i : ℕ) (x : X) (b : Bool) → i < length xs → x ≡ get_or xs i x → p x ≡ b → list_any p (drop i xs) ≡ (b || list_any p (drop (i + 1) xs))
any_at {X} p xs i x b within is test = ap (list_any p) (left_at xs i x within is) ∙ ap (λ (c : Bool). c || list_any p (drop (i + 1) xs)) test

-- one that fails the test
pub any_step : {X : Type 0} (p : X → Bool) (xs : List X) (i : ℕ) (x : X) (all : Bool) → i < length xs → x ≡ get_or xs i x → p x ≡ false → list_any p (drop i xs) ≡ all → list_any p (drop (i + 1) xs) ≡ all
any_step p xs i x all within is test h = sym (any_at p xs i x false within is test) ∙ h

-- one that passes it
pub any_found : {X : Type 0} (p : X → Bool) (xs : List X) (i : ℕ) (x : X) (all : Bool) → i < length xs → x ≡ get_or xs i x → p x ≡ true → list_any p (drop i xs) ≡ all → true ≡ all
any_found p xs i x all within is test h = sym (any_at p xs i x true within is test) ∙ h

pub any_end : {X : Type 0} (p : X → Bool) (xs : List X) (i : ℕ) (all : Bool) → length xs ≤ i → list_any p (drop i xs) ≡ all → false ≡ all
any_end {X} p xs i all end h = sym (ap (list_any p) (drop_all i xs end)) ∙ h

pub any_map : {X Y : Type 0} (f : X → Y) (p : Y → Bool) (xs : List X) → list_any (λ x. p (f x)) xs ≡ list_any p (map f xs)
any_map f p [] = refl
any_map f p (x ∷ xs) = ap (λ (b : Bool). p (f x) || b) (any_map f p xs)
