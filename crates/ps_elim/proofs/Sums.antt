-- Weighted sums of rows under sums of vectors, and under vectors divided by what their entries have in common.
use Rattle.std.proofs.Common.{◌≡◌, ℕ, zero, suc, ◌+◌, ◌*◌, ◌/◌, ◌<◌, ℤ, pos, negsuc, ◌+ℤ◌, ◌*ℤ◌, ◌-ℤ◌, List, [], ◌∷◌, length, map, unsigned_abs, refl, sym, ap, ap₂, ◌∙◌, subst, arith}
use Rattle.std.specs.Int.{◌∣◌}
use Rattle.std.specs.List.{AllByRecursion}
use Rattle.std.proofs.lemmas.Int.{ints, unsigned_abs-mul}
use Rattle.std.proofs.Math.Nat.{dvd-mul_right}
use Rattle.ps_elim.specs.Combining.{weighted_entries}
use Rattle.ps_elim.specs.Divisors.{divisor_of_all, reduced}
use Rattle.ps_elim.proofs.Gcds.{divisor_of_all-divides, exactly}
use Rattle.ps_farkas.specs.Refutes.{weighted}
use Rattle.ps_term.specs.declared.row.Row.{Row}
use Rattle.ps_term.specs.declared.term.Term.{Term}
use Rattle.ps_term.proofs.Ring.{distribute, distribute_right, assoc, mul-zero}

product_of_sum : (m i n j : ℕ) (t : ℤ) → (pos ((m * i) + (n * j)) *ℤ t) ≡ ((pos m *ℤ (pos i *ℤ t)) +ℤ (pos n *ℤ (pos j *ℤ t)))
product_of_sum m i n j t =
    omega (arith, ints, distribute_right (pos (m * i)) (pos (n * j)) t, assoc (pos m) (pos i) t, assoc (pos n) (pos j) t)

regroup : (m n : ℤ) (a b ra rb whole : ℤ) → whole ≡ (((m *ℤ a) +ℤ (n *ℤ b)) +ℤ ((m *ℤ ra) +ℤ (n *ℤ rb))) → whole ≡ ((m *ℤ (a +ℤ ra)) +ℤ (n *ℤ (b +ℤ rb)))
regroup m n a b ra rb whole h = omega (arith, ints, h, distribute m a ra, distribute n b rb)

pub weighted-entries : (part : Term → ℤ) (rows : List Row) (m : ℕ) (p : List ℕ) (n : ℕ) (q : List ℕ) → length p ≡ length q → weighted part rows (weighted_entries m p n q) ≡ ((pos m *ℤ weighted part rows p) +ℤ (pos n *ℤ weighted part rows q))
weighted-entries part [] m p n q h = omega (arith, ints, mul-zero (pos m), mul-zero (pos n))
weighted-entries part (r ∷ rs) m [] n [] h = omega (arith, ints, mul-zero (pos m), mul-zero (pos n))
weighted-entries part (r ∷ rs) m [] n (j ∷ q) h = absurd (omega arith)
weighted-entries part (r ∷ rs) m (i ∷ p) n [] h = absurd (omega arith)
weighted-entries part (r ∷ rs) m (i ∷ p) n (j ∷ q) h =
    regroup (pos m) (pos n) (pos i *ℤ part r.term) (pos j *ℤ part r.term) (weighted part rs p) (weighted part rs q) (weighted part (r ∷ rs) (weighted_entries m (i ∷ p) n (j ∷ q))) (ap₂ (λ (x y : ℤ). x +ℤ y) (product_of_sum m i n j (part r.term)) (weighted-entries part rs m p n q (omega arith)))

pub length-weighted_entries : (m : ℕ) (p : List ℕ) (n : ℕ) (q : List ℕ) → length p ≡ length q → length (weighted_entries m p n q) ≡ length p
length-weighted_entries m [] n q h = refl
length-weighted_entries m (i ∷ p) n [] h = absurd (omega arith)
length-weighted_entries m (i ∷ p) n (j ∷ q) h = ap suc (length-weighted_entries m p n q (omega arith))

-- ---- division
divided_product : (d n : ℕ) (t : ℤ) → 0 < d → d ∣ n → (pos n *ℤ t) ≡ (pos d *ℤ (pos (n / d) *ℤ t))
divided_product d n t h e = ap (λ (k : ℕ). pos k *ℤ t) (exactly d n h e) ∙ assoc (pos d) (pos (n / d)) t

weighted-divided : (part : Term → ℤ) (rows : List Row) (d : ℕ) (v : List ℕ) → 0 < d → AllByRecursion (λ n. d ∣ n) v → weighted part rows v ≡ (pos d *ℤ weighted part rows (map (λ n. n / d) v))
weighted-divided part [] d v h all = sym (mul-zero (pos d))
weighted-divided part (r ∷ rs) d [] h all = sym (mul-zero (pos d))
weighted-divided part (r ∷ rs) d (n ∷ v) h all =
    omega (arith, ints, divided_product d n (part r.term) h all.0, weighted-divided part rs d v h all.1, distribute (pos d) (pos (n / d) *ℤ part r.term) (weighted part rs (map (λ k. k / d) v)))

pub weighted-reduced : (part : Term → ℤ) (rows : List Row) (v : List ℕ) → 0 < divisor_of_all v → weighted part rows v ≡ (pos (divisor_of_all v) *ℤ weighted part rows (reduced v))
weighted-reduced part rows v h = weighted-divided part rows (divisor_of_all v) v h (divisor_of_all-divides v)

-- ---- a factor that isn't 0 is left out
pub product_zero : (d : ℕ) (c : ℤ) → 0 < d → (pos d *ℤ c) ≡ pos 0 → c ≡ pos 0
product_zero zero c h e = absurd (omega arith)
product_zero (suc d) (pos zero) h e = refl
product_zero (suc d) (pos (suc k)) h e = absurd (omega (arith, ints, e))
product_zero (suc d) (negsuc k) h e = absurd (omega (arith, ints, e))

pub cancel_factor : (d : ℕ) (a b : ℤ) → 0 < d → (pos d *ℤ a) ≡ (pos d *ℤ b) → a ≡ b
cancel_factor d a b h e =
    let whole : (b +ℤ (a -ℤ b)) ≡ a = omega (arith, ints) in
    let none : (pos d *ℤ (a -ℤ b)) ≡ pos 0 = omega (arith, ints, e, distribute (pos d) b (a -ℤ b), ap (λ (z : ℤ). pos d *ℤ z) whole) in
    let zero_left : (a -ℤ b) ≡ pos 0 = product_zero d (a -ℤ b) h none in
    omega (arith, ints, zero_left)

-- the row of the reduced vector is the row of the vector, divided by what its entries have in common
pub reduced_part : (part : Term → ℤ) (rows : List Row) (v : List ℕ) (new : ℤ) → 0 < divisor_of_all v → weighted part rows v ≡ (pos (divisor_of_all v) *ℤ new) → new ≡ weighted part rows (reduced v)
reduced_part part rows v new h e =
    cancel_factor (divisor_of_all v) new (weighted part rows (reduced v)) h (sym e ∙ weighted-reduced part rows v h)

pub reduced_divides : (part : Term → ℤ) (rows : List Row) (v : List ℕ) (old : ℤ) → 0 < divisor_of_all v → old ≡ weighted part rows v → divisor_of_all v ∣ unsigned_abs old
reduced_divides part rows v old h e =
    let k = unsigned_abs (weighted part rows (reduced v)) in
    let size : unsigned_abs old ≡ divisor_of_all v * k = ap unsigned_abs (e ∙ weighted-reduced part rows v h) ∙ unsigned_abs-mul (pos (divisor_of_all v)) (weighted part rows (reduced v)) in
    subst (λ (n : ℕ). divisor_of_all v ∣ n) (sym size) (dvd-mul_right (divisor_of_all v) k)
