-- Members of a list, one after another, by their places.
use Rattle.std.proofs.Common.{◌≡◌, ◌<◌, ◌≤◌, ◌+◌, ℕ, List, length, get_or, refl, sym, subst, ◌∙◌, inl, inr, Contains, Some, arith}
use Rattle.std.specs.Prelude.{slice_get}
use Rattle.std.proofs.lemmas.Bool.{cases_lt}
use Rattle.std.proofs.lemmas.Option.{get_or_from_slice_get, same_Some, slice_get_read, slice_get_within}

-- each member before this place
abbrev pub AreBefore : {X : Type 0} → (X → Type 0) → List X → ℕ → Type 0
AreBefore {X} P xs n = (m : ℕ) (x : X) → m < n → slice_get xs m ≡ Some x → P x

pub at_place_in : {X : Type 0} (xs : List X) (n : ℕ) (x : X) → slice_get xs n ≡ Some x → Contains xs x
at_place_in xs n x is = (n, slice_get_within xs n x is, get_or_from_slice_get xs n x x is)

pub place_in : {X : Type 0} (xs : List X) (x : X) → (h : Contains xs x) → slice_get xs h.0 ≡ Some x
place_in xs x h = slice_get_read xs (length xs) h.0 x refl h.1 (sym h.2)

pub before_none : {X : Type 0} (P : X → Type 0) (xs : List X) → AreBefore P xs 0
before_none P xs m x less is = absurd (let f : ⊥ = omega (arith, less) in f)

pub before_more : {X : Type 0} (P : X → Type 0) (xs : List X) (n : ℕ) (x : X) → AreBefore P xs n → slice_get xs n ≡ Some x → P x → AreBefore P xs (n + 1)
before_more {X} P xs n x before is p m y less at = elim (cases_lt m n) [
  | inl earlier ↦ before m y earlier at
  | inr last ↦
      let same : m ≡ n = omega (arith, less, last) in
      subst P (same_Some x y (sym is ∙ subst (λ (k : ℕ). slice_get xs k ≡ Some y) same at)) p
]

pub before_all : {X : Type 0} (P : X → Type 0) (xs : List X) (n : ℕ) → AreBefore P xs n → length xs ≤ n → (x : X) → Contains xs x → P x
before_all P xs n before past x h = before h.0 x (let inside : h.0 < length xs = h.1 in omega (arith, past, inside)) (place_in xs x h)

-- a member as it is read
pub read_at : {X : Type 0} (xs ys : List X) (count n : ℕ) (x : X) → ys ≡ xs → count ≡ length ys → n < count → x ≡ get_or ys n x → slice_get xs n ≡ Some x
read_at {X} xs ys count n x same is_long inside is = subst (λ (zs : List X). slice_get zs n ≡ Some x) same (slice_get_read ys count n x is_long inside is)

pub past_all : {X : Type 0} (xs ys : List X) (count n : ℕ) → ys ≡ xs → count ≡ length ys → count ≤ n → length xs ≤ n
past_all {X} xs ys count n same is_long past = subst (λ (zs : List X). length zs ≤ n) same (subst (λ (k : ℕ). k ≤ n) is_long past)

pub read_slice : {X : Type 0} (xs ys : List X) (n : ℕ) (x : X) → ys ≡ xs → n < length xs → x ≡ get_or ys n x → slice_get xs n ≡ Some x
read_slice {X} xs ys n x same inside is =
    subst (λ (zs : List X). slice_get zs n ≡ Some x) same (slice_get_read ys (length ys) n x refl (subst (λ (zs : List X). n < length zs) (sym same) inside) is)
