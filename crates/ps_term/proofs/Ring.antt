-- The laws of sums and products of whole numbers that `omega` lacks.
use Rattle.std.proofs.Common.{◌≡◌, ℕ, ◌*◌, ℤ, pos, ◌+ℤ◌, ◌*ℤ◌, arith, ap}
use Rattle.std.proofs.lemmas.Int.{ints}
use borrow.Author.Differences.{up, down, sum_is_lem, product_is}

pub distribute : (a b c : ℤ) → a *ℤ (b +ℤ c) ≡ (a *ℤ b) +ℤ (a *ℤ c)
distribute a b c =
    omega (arith, ints, ap (λ (z : ℕ). up a * z) (sum_is_lem b c), ap (λ (z : ℕ). down a * z) (sum_is_lem b c))

pub distribute_right : (a b c : ℤ) → (a +ℤ b) *ℤ c ≡ (a *ℤ c) +ℤ (b *ℤ c)
distribute_right a b c =
    omega (arith, ints, ap (λ (z : ℕ). z * up c) (sum_is_lem a b), ap (λ (z : ℕ). z * down c) (sum_is_lem a b))

pub assoc : (a b c : ℤ) → (a *ℤ b) *ℤ c ≡ a *ℤ (b *ℤ c)
assoc a b c =
    omega (arith, ints, ap (λ (z : ℕ). up a * z) (product_is b c).0, ap (λ (z : ℕ). down a * z) (product_is b c).0, ap (λ (z : ℕ). up a * z) (product_is b c).1, ap (λ (z : ℕ). down a * z) (product_is b c).1, ap (λ (z : ℕ). up c * z) (product_is a b).0, ap (λ (z : ℕ). down c * z) (product_is a b).0, ap (λ (z : ℕ). up c * z) (product_is a b).1, ap (λ (z : ℕ). down c * z) (product_is a b).1)

pub zero-mul : (a : ℤ) → pos 0 *ℤ a ≡ pos 0
zero-mul a = omega (arith, ints)

pub mul-zero : (a : ℤ) → a *ℤ pos 0 ≡ pos 0
mul-zero a = omega (arith, ints)

pub mul-one : (a : ℤ) → a *ℤ pos 1 ≡ a
mul-one a = omega (arith, ints)

pub one-mul : (a : ℤ) → pos 1 *ℤ a ≡ a
one-mul a = omega (arith, ints)
