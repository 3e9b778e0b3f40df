-- Under each vector of the set after some variables, these variables vanish.
use Rattle.std.proofs.Common.{◌≡◌, ℕ, zero, suc, ◌*◌, ◌/◌, ◌<◌, ℤ, pos, negsuc, ◌+ℤ◌, ◌*ℤ◌, ◌<ℤ◌, ◌≤ℤ◌, Bool, true, false, if◌then◌else◌, List, [], ◌∷◌, ◌++◌, length, map, Contains, unsigned_abs, int_lt, refl, sym, ap, ◌∙◌, subst, arith, inl, inr, ◌⊎◌}
use Rattle.std.specs.Int.{◌∣◌}
use Rattle.std.specs.List.{AllByRecursion, filter}
use Rattle.std.specs.Ordering.{int_eq}
use Rattle.std.proofs.lemmas.Bool.Decides.{Decides-int_eq}
use Rattle.std.proofs.lemmas.Int.{ints}
use Rattle.std.proofs.lemmas.List.{length-map, length-replicate}
use Rattle.std.proofs.lemmas.List.Elements.{All-contains, All-from_recursion}
use Rattle.std.proofs.Math.Nat.{div-mul_cancel}
use Rattle.ps_elim.specs.Combining.{all_combined, combined, eliminated, negatives, positives, size_under, weight, weighted_entries, zeros}
use Rattle.ps_elim.specs.Divisors.{common_divisor, divisor_of_all, reduced}
use Rattle.ps_elim.specs.Elimination.{last_set}
use Rattle.ps_elim.specs.Stages.{first_set, set_after, variables, with_variable, with_variables}
use Rattle.ps_elim.specs.Vectors.{coefficient_under, constant_under, units}
use Rattle.ps_elim.proofs.Gcds.{common_divisor-gcd, common_divisor-swap, reduced-same}
use Rattle.ps_elim.proofs.Kept.{all_kept}
use Rattle.ps_elim.proofs.Sums.{length-weighted_entries, product_zero, weighted-entries, weighted-reduced}
use Rattle.ps_farkas.specs.Refutes.{Refutes}
use Rattle.ps_farkas.proofs.Weighing.{weighted-zero}
use Rattle.ps_term.specs.declared.row.Row.{Row}
use Rattle.ps_term.specs.declared.var.Var.{Var}
use Rattle.ps_term.specs.Pairs.{coefficient}
use Rattle.ps_term.specs.Var.{var_eq, var_lt}
use Rattle.ps_term.proofs.Canonical.{coefficient-other}
use Rattle.ps_term.proofs.Ring.{mul-zero}
use Rattle.ps_term.proofs.Variables.{var_eq-true}

-- the vector has an entry for each row, and the variables that are done vanish under it
pub record Vanishing (rows : List Row) (done : Var → Type 0) (v : List ℕ) : Type 0 where
  pub long : length v ≡ length rows
  pub vanish : (x : Var) → done x → coefficient_under rows x v ≡ pos 0

-- ---- the vector of a pair
zero_sum : (m n : ℕ) (a b : ℤ) → a ≡ pos 0 → b ≡ pos 0 → ((pos m *ℤ a) +ℤ (pos n *ℤ b)) ≡ pos 0
zero_sum m n a b e f =
    omega (arith, ints, ap (λ (z : ℤ). pos m *ℤ z) e, ap (λ (z : ℤ). pos n *ℤ z) f, mul-zero (pos m), mul-zero (pos n))

-- by weights that make the two sizes one, opposite coefficients cancel
cross : (s t g : ℕ) → g ∣ s → g ∣ t → (t / g) * s ≡ (s / g) * t
cross s t g h k =
    let one : (s / g) * g ≡ s = div-mul_cancel g h in
    let two : (t / g) * g ≡ t = div-mul_cancel g k in
    ap (λ (z : ℕ). (t / g) * z) (sym one) ∙ (swapped (t / g) (s / g) g ∙ ap (λ (z : ℕ). (s / g) * z) two)
  where
    swapped : (a b c : ℕ) → a * (b * c) ≡ b * (a * c)
    swapped a b c = omega arith

opposite : (m n : ℕ) (a b : ℤ) → pos 0 <ℤ a → b <ℤ pos 0 → m * unsigned_abs a ≡ n * unsigned_abs b → ((pos m *ℤ a) +ℤ (pos n *ℤ b)) ≡ pos 0
opposite m n (pos a) (pos b) h k e = absurd (omega (arith, ints, k))
opposite m n (negsuc a) b h k e = absurd (omega (arith, ints, h))
opposite m n (pos a) (negsuc b) h k e = by_size m n a b e
  where
    by_size : (c d f g : ℕ) → c * f ≡ d * suc g → ((pos c *ℤ pos f) +ℤ (pos d *ℤ negsuc g)) ≡ pos 0
    by_size c zero f g i = omega (arith, ints, i)
    by_size c (suc d) f g i = omega (arith, ints, i)

cancels : (rows : List Row) (x : Var) (p q : List ℕ) → pos 0 <ℤ coefficient_under rows x p → coefficient_under rows x q <ℤ pos 0 → ((pos (weight rows x p q) *ℤ coefficient_under rows x p) +ℤ (pos (weight rows x q p) *ℤ coefficient_under rows x q)) ≡ pos 0
cancels rows x p q h k =
    let s = size_under rows x p in
    let t = size_under rows x q in
    let g = common_divisor s t in
    let d = common_divisor-gcd s t in
    let same : t / g * s ≡ s / common_divisor t s * t = cross s t g d.0 d.1 ∙ ap (λ (z : ℕ). (s / z) * t) (common_divisor-swap s t) in
    opposite (t / g) (s / common_divisor t s) (coefficient_under rows x p) (coefficient_under rows x q) h k same

reduced_vanishes : (rows : List Row) (x : Var) (v : List ℕ) → coefficient_under rows x v ≡ pos 0 → coefficient_under rows x (reduced v) ≡ pos 0
reduced_vanishes rows x v e = by_divisor (divisor_of_all v) refl
  where
    by_divisor : (d : ℕ) → divisor_of_all v ≡ d → coefficient_under rows x (reduced v) ≡ pos 0
    by_divisor zero f = ap (λ (u : List ℕ). coefficient_under rows x u) (reduced-same v (omega (arith, f))) ∙ e
    by_divisor (suc d) f =
        let some : 0 < divisor_of_all v = omega (arith, f) in
        product_zero (divisor_of_all v) (coefficient_under rows x (reduced v)) some (sym (weighted-reduced (λ t. coefficient x t.pairs) rows v some) ∙ e)

combined_vanishes : (rows : List Row) (done : Var → Type 0) (x : Var) (p q : List ℕ) → Vanishing rows done p → Vanishing rows done q → pos 0 <ℤ coefficient_under rows x p → coefficient_under rows x q <ℤ pos 0 → Vanishing rows (λ y. done y ⊎ (x ≡ y)) (combined rows x p q)
combined_vanishes rows done x p q h k a b =
    let m = weight rows x p q in
    let n = weight rows x q p in
    let sum = weighted_entries m p n q in
    let same : length p ≡ length q = h.long ∙ sym k.long in
    let under : (y : Var) → coefficient_under rows y sum ≡ ((pos m *ℤ coefficient_under rows y p) +ℤ (pos n *ℤ coefficient_under rows y q)) = λ y. weighted-entries (λ t. coefficient y t.pairs) rows m p n q same in
    record {
      long = length-map sum (λ i. i / divisor_of_all sum) ∙ (length-weighted_entries m p n q same ∙ h.long);
      vanish = λ y d. reduced_vanishes rows y sum (under y ∙ at y d);
    }
  where
    at : (y : Var) → done y ⊎ (x ≡ y) → ((pos (weight rows x p q) *ℤ coefficient_under rows y p) +ℤ (pos (weight rows x q p) *ℤ coefficient_under rows y q)) ≡ pos 0
    at y (inl d) = zero_sum (weight rows x p q) (weight rows x q p) (coefficient_under rows y p) (coefficient_under rows y q) (h.vanish y d) (k.vanish y d)
    at y (inr e) = subst (λ (z : Var). ((pos (weight rows x p q) *ℤ coefficient_under rows z p) +ℤ (pos (weight rows x q p) *ℤ coefficient_under rows z q)) ≡ pos 0) e (cancels rows x p q a b)

-- ---- a filter keeps what passes
passing_first : {X : Type 0} (P Q : X → Type 0) (test : X → Bool) → ((x : X) → P x → test x ≡ true → Q x) → (x : X) (xs : List X) → P x → AllByRecursion Q (filter test xs) → (t : Bool) → test x ≡ t → AllByRecursion Q (if t then x ∷ filter test xs else filter test xs)
passing_first P Q test f x xs p rest true e = (f x p e, rest)
passing_first P Q test f x xs p rest false e = rest

passing : {X : Type 0} (P Q : X → Type 0) (test : X → Bool) → ((x : X) → P x → test x ≡ true → Q x) → (xs : List X) → AllByRecursion P xs → AllByRecursion Q (filter test xs)
passing P Q test f [] h = tt
passing P Q test f (x ∷ xs) h = passing_first P Q test f x xs h.0 (passing P Q test f xs h.1) (test x) refl

append : {X : Type 0} (P : X → Type 0) (xs ys : List X) → AllByRecursion P xs → AllByRecursion P ys → AllByRecursion P (xs ++ ys)
append P [] ys h k = k
append P (x ∷ xs) ys h k = (h.0, append P xs ys h.1 k)

mapped : {X Y : Type 0} (P : X → Type 0) (Q : Y → Type 0) (f : X → Y) → ((x : X) → P x → Q (f x)) → (xs : List X) → AllByRecursion P xs → AllByRecursion Q (map f xs)
mapped P Q f g [] h = tt
mapped P Q f g (x ∷ xs) h = (g x h.0, mapped P Q f g xs h.1)

-- ---- one variable more
abbrev Positive : List Row → (Var → Type 0) → Var → List ℕ → Type 0
Positive rows done x v = Vanishing rows done v × (pos 0 <ℤ coefficient_under rows x v)

abbrev Negative : List Row → (Var → Type 0) → Var → List ℕ → Type 0
Negative rows done x v = Vanishing rows done v × (coefficient_under rows x v <ℤ pos 0)

pairs_vanish : (rows : List Row) (done : Var → Type 0) (x : Var) (ps qs : List (List ℕ)) → AllByRecursion (Positive rows done x) ps → AllByRecursion (Negative rows done x) qs → AllByRecursion (Vanishing rows (λ y. done y ⊎ (x ≡ y))) (all_combined rows x ps qs)
pairs_vanish rows done x [] qs h k = tt
pairs_vanish rows done x (p ∷ ps) qs h k =
    append (Vanishing rows (λ y. done y ⊎ (x ≡ y))) (map (combined rows x p) qs) (all_combined rows x ps qs) (mapped (Negative rows done x) (Vanishing rows (λ y. done y ⊎ (x ≡ y))) (combined rows x p) (λ q n. combined_vanishes rows done x p q h.0.0 n.0 h.0.1 n.1) qs k) (pairs_vanish rows done x ps qs h.1 k)

zero_vanishes : (rows : List Row) (done : Var → Type 0) (x : Var) (v : List ℕ) → Vanishing rows done v → int_eq (coefficient_under rows x v) (pos 0) ≡ true → Vanishing rows (λ y. done y ⊎ (x ≡ y)) v
zero_vanishes rows done x v h e = record { long = h.long; vanish = at }
  where
    at : (y : Var) → done y ⊎ (x ≡ y) → coefficient_under rows y v ≡ pos 0
    at y (inl d) = h.vanish y d
    at y (inr f) = subst (λ (z : Var). coefficient_under rows z v ≡ pos 0) f ((Decides-int_eq (coefficient_under rows x v) (pos 0)).0 e)

pub eliminated_vanish : (rows : List Row) (done : Var → Type 0) (x : Var) (vs : List (List ℕ)) → AllByRecursion (Vanishing rows done) vs → AllByRecursion (Vanishing rows (λ y. done y ⊎ (x ≡ y))) (eliminated rows x vs)
eliminated_vanish rows done x vs h =
    let zero_ones = passing (Vanishing rows done) (Vanishing rows (λ y. done y ⊎ (x ≡ y))) (λ v. int_eq (coefficient_under rows x v) (pos 0)) (λ v p e. zero_vanishes rows done x v p e) vs h in
    let first_ones = passing (Vanishing rows done) (Positive rows done x) (λ v. int_lt (pos 0) (coefficient_under rows x v)) (λ v p e. (p, omega (arith, ints, e))) vs h in
    let second_ones = passing (Vanishing rows done) (Negative rows done x) (λ v. int_lt (coefficient_under rows x v) (pos 0)) (λ v p e. (p, omega (arith, ints, e))) vs h in
    all_kept (Vanishing rows (λ y. done y ⊎ (x ≡ y))) (zeros rows x vs ++ all_combined rows x (positives rows x vs) (negatives rows x vs)) (append (Vanishing rows (λ y. done y ⊎ (x ≡ y))) (zeros rows x vs) (all_combined rows x (positives rows x vs) (negatives rows x vs)) zero_ones (pairs_vanish rows done x (positives rows x vs) (negatives rows x vs) first_ones second_ones))

-- ---- all variables
abbrev pub Among : List Var → Var → Type 0
Among [] y = ⊥
Among (x ∷ xs) y = (x ≡ y) ⊎ Among xs y

weaker : (rows : List Row) (P Q : Var → Type 0) → ((y : Var) → Q y → P y) → (vs : List (List ℕ)) → AllByRecursion (Vanishing rows P) vs → AllByRecursion (Vanishing rows Q) vs
weaker rows P Q f [] h = tt
weaker rows P Q f (v ∷ vs) h = (record { long = h.0.long; vanish = λ y q. h.0.vanish y (f y q) }, weaker rows P Q f vs h.1)

set_after_vanish : (rows : List Row) (done : Var → Type 0) (xs : List Var) (vs : List (List ℕ)) → AllByRecursion (Vanishing rows done) vs → AllByRecursion (Vanishing rows (λ y. done y ⊎ Among xs y)) (set_after rows vs xs)
set_after_vanish rows done [] vs h = weaker rows done (λ y. done y ⊎ Among [] y) (λ y d. out d) vs h
  where
    out : {A : Type 0} → A ⊎ ⊥ → A
    out (inl a) = a
    out (inr b) = absurd b
set_after_vanish rows done (x ∷ xs) vs h =
    weaker rows (λ y. (done y ⊎ (x ≡ y)) ⊎ Among xs y) (λ y. done y ⊎ Among (x ∷ xs) y) (λ y d. shift d) (set_after rows (eliminated rows x vs) xs) (set_after_vanish rows (λ y. done y ⊎ (x ≡ y)) xs (eliminated rows x vs) (eliminated_vanish rows done x vs h))
  where
    shift : {A B C : Type 0} → A ⊎ (B ⊎ C) → (A ⊎ B) ⊎ C
    shift (inl a) = inl (inl a)
    shift (inr (inl b)) = inl (inr b)
    shift (inr (inr d)) = inr d

units_long : (rows : List Row) (n : ℕ) → AllByRecursion (λ v. length v ≡ n) (units n)
units_long rows zero = tt
units_long rows (suc n) =
    (ap suc (length-replicate n 0), mapped (λ v. length v ≡ n) (λ v. length v ≡ suc n) (λ v. 0 ∷ v) (λ v e. ap suc e) (units n) (units_long rows n))

first_vanish : (rows : List Row) (vs : List (List ℕ)) → AllByRecursion (λ v. length v ≡ length rows) vs → AllByRecursion (Vanishing rows (λ _. ⊥)) vs
first_vanish rows [] h = tt
first_vanish rows (v ∷ vs) h = (record { long = h.0; vanish = λ x d. absurd d }, first_vanish rows vs h.1)

pub last_vanish : (rows : List Row) → AllByRecursion (Vanishing rows (λ y. ⊥ ⊎ Among (variables rows) y)) (set_after rows (first_set rows) (variables rows))
last_vanish rows = set_after_vanish rows (λ _. ⊥) (variables rows) (first_set rows) (first_vanish rows (first_set rows) (units_long rows (length rows)))

-- ---- a variable that isn't among those of the rows stands in no row
has_first : (x y : Var) (ys : List Var) → Among (with_variable x ys) x → (t : Bool) → var_eq x y ≡ t → (u : Bool) → Among (if t then y ∷ ys else (if u then x ∷ y ∷ ys else y ∷ with_variable x ys)) x
has_first x y ys rest true e u = inl (sym (var_eq-true x y e))
has_first x y ys rest false e true = inl refl
has_first x y ys rest false e false = inr rest

with_variable_has : (x : Var) (xs : List Var) → Among (with_variable x xs) x
with_variable_has x [] = inl refl
with_variable_has x (y ∷ ys) = has_first x y ys (with_variable_has x ys) (var_eq x y) refl (var_lt x y)

keeps_first : (x y : Var) (ys : List Var) (z : Var) → Among (y ∷ ys) z → (Among ys z → Among (with_variable x ys) z) → (t u : Bool) → Among (if t then y ∷ ys else (if u then x ∷ y ∷ ys else y ∷ with_variable x ys)) z
keeps_first x y ys z h rest true u = h
keeps_first x y ys z h rest false true = inr h
keeps_first x y ys z (inl e) rest false false = inl e
keeps_first x y ys z (inr m) rest false false = inr (rest m)

with_variable_keeps : (x : Var) (xs : List Var) (z : Var) → Among xs z → Among (with_variable x xs) z
with_variable_keeps x [] z h = absurd h
with_variable_keeps x (y ∷ ys) z h = keeps_first x y ys z h (λ m. with_variable_keeps x ys z m) (var_eq x y) (var_lt x y)

with_variables_keep : (ps : List (Var × ℤ)) (xs : List Var) (z : Var) → Among xs z → Among (with_variables ps xs) z
with_variables_keep [] xs z h = h
with_variables_keep (p ∷ ps) xs z h = with_variable_keeps p.0 (with_variables ps xs) z (with_variables_keep ps xs z h)

pair_known : (x : Var) (p : Var × ℤ) (ps : List (Var × ℤ)) (xs : List Var) → Among (with_variables ps xs) x ⊎ (coefficient x ps ≡ pos 0) → (t : Bool) → var_eq x p.0 ≡ t → Among (with_variables (p ∷ ps) xs) x ⊎ (coefficient x (p ∷ ps) ≡ pos 0)
pair_known x p ps xs rest true e =
    inl (subst (λ (y : Var). Among (with_variable p.0 (with_variables ps xs)) y) (sym (var_eq-true x p.0 e)) (with_variable_has p.0 (with_variables ps xs)))
pair_known x p ps xs (inl m) false e = inl (with_variable_keeps p.0 (with_variables ps xs) x m)
pair_known x p ps xs (inr z) false e = inr (coefficient-other x p ps e ∙ z)

pairs_known : (x : Var) (ps : List (Var × ℤ)) (xs : List Var) → Among (with_variables ps xs) x ⊎ (coefficient x ps ≡ pos 0)
pairs_known x [] xs = inr refl
pairs_known x (p ∷ ps) xs = pair_known x p ps xs (pairs_known x ps xs) (var_eq x p.0) refl

row_known : (x : Var) (r : Row) (rs : List Row) → Among (variables rs) x ⊎ AllByRecursion (λ s. coefficient x s.term.pairs ≡ pos 0) rs → Among (with_variables r.term.pairs (variables rs)) x ⊎ (coefficient x r.term.pairs ≡ pos 0) → Among (variables (r ∷ rs)) x ⊎ AllByRecursion (λ s. coefficient x s.term.pairs ≡ pos 0) (r ∷ rs)
row_known x r rs (inl m) here = inl (with_variables_keep r.term.pairs (variables rs) x m)
row_known x r rs (inr z) (inl m) = inl m
row_known x r rs (inr z) (inr y) = inr (y, z)

known : (x : Var) (rows : List Row) → Among (variables rows) x ⊎ AllByRecursion (λ r. coefficient x r.term.pairs ≡ pos 0) rows
known x [] = inr tt
known x (r ∷ rs) = row_known x r rs (known x rs) (pairs_known x r.term.pairs (variables rs))

-- ---- so a vector of the last set with a positive constant refutes
pub last_refutes : (rows : List Row) (v : List ℕ) → Contains (last_set rows) v → pos 1 ≤ℤ constant_under rows v → Refutes rows v
last_refutes rows v h k =
    let here : Vanishing rows (λ y. ⊥ ⊎ Among (variables rows) y) v = All-contains (Vanishing rows (λ y. ⊥ ⊎ Among (variables rows) y)) (last_set rows) v (All-from_recursion (Vanishing rows (λ y. ⊥ ⊎ Among (variables rows) y)) (last_set rows) (last_vanish rows)) h in
    record {
      lengths = here.long;
      cancels = λ x. cancel x here (known x rows);
      positive = k;
    }
  where
    cancel : (x : Var) → Vanishing rows (λ y. ⊥ ⊎ Among (variables rows) y) v → Among (variables rows) x ⊎ AllByRecursion (λ r. coefficient x r.term.pairs ≡ pos 0) rows → coefficient_under rows x v ≡ pos 0
    cancel x w (inl m) = w.vanish x (inr m)
    cancel x w (inr z) = weighted-zero (λ t. coefficient x t.pairs) rows v z
