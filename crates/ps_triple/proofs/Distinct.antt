-- Lists whose members differ, place by place.
use Rattle.std.proofs.Common.{◌≡◌, ◌≢◌, ◌⊎◌, ◌+◌, ◌<◌, ◌≤◌, ℕ, List, length, get_or, take, AllPairs, Contains, sym, ap, ◌∙◌, inl, inr, arith}
use Rattle.std.proofs.lemmas.Bool.{cases_lt}
use Rattle.std.proofs.lemmas.List.{get_or-take, length-take-le}
use Rattle.ps_triple.proofs.Membership.{any_default}

-- the members at the first places differ
abbrev pub DifferBelow : List ℕ → ℕ → Type 0
DifferBelow xs n = (a b d : ℕ) → a < b → b < n → get_or xs a d ≢ get_or xs b d

pub stands_twice : (xs : List ℕ) (i x : ℕ) → i < length xs → x ≡ get_or xs i x → Contains (take i xs) x → ¬ AllPairs (λ (s t : ℕ). s ≢ t) xs
stands_twice xs i x l is (k, within, at) all =
    let j : i ≤ length xs = omega (arith, l) in
    let e : length (take i xs) ≡ i = length-take-le i xs j in
    let below : k < i = omega (arith, within, e) in
    all k i x below l (sym (get_or-take i xs k x below) ∙ (at ∙ is))

pub differ_more : (xs : List ℕ) (i x : ℕ) → DifferBelow xs i → i < length xs → x ≡ get_or xs i x → (Contains (take i xs) x → ⊥) → DifferBelow xs (i + 1)
differ_more xs i x differ l is none a b d lt high e = at (cases_lt b i)
  where
    at : (b < i) ⊎ (i ≤ b) → ⊥
    at (inl less) = differ a b d lt less e
    at (inr least) =
        let same : b ≡ i = omega (arith, least, high) in
        let below : a < i = omega (arith, lt, same) in
        let j : i ≤ length xs = omega (arith, l) in
        let long : length (take i xs) ≡ i = length-take-le i xs j in
        let within : a < length (take i xs) = omega (arith, below, long) in
        let there : a < length xs = omega (arith, below, l) in
        none (a, within, get_or-take i xs a x below ∙ (any_default xs a x d there ∙ (e ∙ (ap (λ (k : ℕ). get_or xs k d) same ∙ (any_default xs i d x l ∙ sym is)))))

pub all_differ : (xs : List ℕ) (n : ℕ) → DifferBelow xs n → length xs ≤ n → AllPairs (λ (s t : ℕ). s ≢ t) xs
all_differ xs n differ h a b d lt l = differ a b d lt (omega (arith, l, h))
