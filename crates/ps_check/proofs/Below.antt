-- The order of lists of numbers: the first that differ decide.
use Rattle.std.proofs.Common.{◌≡◌, ◌<◌, ℕ, List, [], ◌∷◌, refl, inl, inr, ◌⊎◌, arith}
use Rattle.std.specs.Cmp.{ranks}
use Rattle.std.specs.Cmp.Lexicographic.{slice_cmp}
use Rattle.std.specs.Ordering.{MatchOrdering, nat_cmp, ordering_then}
use Rattle.std.specs.declared.cmp.Ordering.{Ordering}
use Rattle.std.specs.declared.cmp.Ordering.TheVariants.{Less, Equal, Greater}

abbrev pub Below : List ℕ → List ℕ → Type 0
Below [] [] = ⊥
Below [] (y ∷ ys) = Unit {0}
Below (x ∷ xs) [] = ⊥
Below (x ∷ xs) (y ∷ ys) = (x < y) ⊎ ((x ≡ y) × Below xs ys)

below_at : (x y : ℕ) (xs ys : List ℕ) (o : Ordering) → MatchOrdering o (x < y) (x ≡ y) (y < x) → (slice_cmp nat_cmp xs ys ≡ Less → Below xs ys)
    → ordering_then o (slice_cmp nat_cmp xs ys) ≡ Less → Below (x ∷ xs) (y ∷ ys)
below_at x y xs ys Less r rest e = inl r
below_at x y xs ys Equal r rest e = inr (r, rest e)
below_at x y xs ys Greater r rest e = absurd (let f : ⊥ = cc in f)

pub below_is : (xs ys : List ℕ) → slice_cmp nat_cmp xs ys ≡ Less → Below xs ys
below_is [] [] h = absurd (let f : ⊥ = cc in f)
below_is [] (y ∷ ys) h = tt
below_is (x ∷ xs) [] h = absurd (let f : ⊥ = cc in f)
below_is (x ∷ xs) (y ∷ ys) h = below_at x y xs ys (nat_cmp x y) (ranks x y) (below_is xs ys) h

less_at : (x y : ℕ) (xs ys : List ℕ) (o : Ordering) → MatchOrdering o (x < y) (x ≡ y) (y < x) → (Below xs ys → slice_cmp nat_cmp xs ys ≡ Less)
    → (x < y) ⊎ ((x ≡ y) × Below xs ys) → ordering_then o (slice_cmp nat_cmp xs ys) ≡ Less
less_at x y xs ys Less r rest h = refl
less_at x y xs ys Equal r rest (inl h) = absurd (let f : ⊥ = omega (arith, r, h) in f)
less_at x y xs ys Equal r rest (inr h) = rest h.1
less_at x y xs ys Greater r rest (inl h) = absurd (let f : ⊥ = omega (arith, r, h) in f)
less_at x y xs ys Greater r rest (inr h) = absurd (let e : x ≡ y = h.0 in let f : ⊥ = omega (arith, r, e) in f)

pub is_below : (xs ys : List ℕ) → Below xs ys → slice_cmp nat_cmp xs ys ≡ Less
is_below [] [] h = absurd h
is_below [] (y ∷ ys) h = refl
is_below (x ∷ xs) [] h = absurd h
is_below (x ∷ xs) (y ∷ ys) h = less_at x y xs ys (nat_cmp x y) (ranks x y) (is_below xs ys) h

-- after the same number the rest decides
pub rest_below : (x : ℕ) (xs ys : List ℕ) → Below (x ∷ xs) (x ∷ ys) → Below xs ys
rest_below x xs ys (inl h) = absurd (let f : ⊥ = omega (arith, h) in f)
rest_below x xs ys (inr h) = h.1

pub last_below : (x y : ℕ) → Below (x ∷ []) (y ∷ []) → x < y
last_below x y (inl h) = h
last_below x y (inr h) = absurd h.1

-- what begins with a greater number isn't below
pub not_below : (x y : ℕ) (xs ys : List ℕ) → y < x → Below (x ∷ xs) (y ∷ ys) → ⊥
not_below x y xs ys less (inl h) = omega (arith, less, h)
not_below x y xs ys less (inr h) = (let e : x ≡ y = h.0 in omega (arith, less, e))
