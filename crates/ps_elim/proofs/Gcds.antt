-- The common divisor of the definitions is the greatest one.
use Rattle.std.proofs.Common.{◌≡◌, ℕ, zero, suc, ◌*◌, ◌/◌, ◌%◌, ◌<◌, ◌≤◌, List, [], ◌∷◌, All, map, refl, sym, ap, ap₂, ◌∙◌, arith}
use Rattle.std.specs.Int.{IsGcd, ◌∣◌}
use Rattle.std.specs.List.{AllByRecursion}
use Rattle.std.proofs.lemmas.List.Elements.{All-from_recursion, recursion_from_All}
use Rattle.std.proofs.lemmas.Nat.Gcd.{IsGcd-from_zero, IsGcd-from_mod, IsGcd-swap, same_from_IsGcd, dvd_trans, dvd-zero, dvd_refl, le_of_dvd, mod-eq-zero_of_dvd}
use Rattle.std.proofs.Math.Nat.{eq-zero_of_zero-dvd}
use Rattle.ps_elim.specs.Divisors.{common_divisor, divided_down, divisor_of_all, reduced}

divided_down-gcd : (k a b : ℕ) → b < k → IsGcd a b (divided_down k a b)
divided_down-gcd zero a b h = absurd (omega arith)
divided_down-gcd (suc k) a zero h = IsGcd-from_zero a zero refl
divided_down-gcd (suc k) a (suc b) h =
    let less : a % suc b < k = omega arith in
    IsGcd-from_mod a (suc b) (divided_down k (suc b) (a % suc b)) (divided_down-gcd k (suc b) (a % suc b) less)

pub common_divisor-gcd : (a b : ℕ) → IsGcd a b (common_divisor a b)
common_divisor-gcd a b = divided_down-gcd (suc b) a b (omega arith)

pub gcd_is : (a b g : ℕ) → IsGcd a b g → g ≡ common_divisor a b
gcd_is a b g h = same_from_IsGcd a b g (common_divisor a b) h (common_divisor-gcd a b)

pub common_divisor-swap : (a b : ℕ) → common_divisor a b ≡ common_divisor b a
common_divisor-swap a b = gcd_is b a (common_divisor a b) (IsGcd-swap a b (common_divisor a b) (common_divisor-gcd a b))

pub zero-common_divisor : (b : ℕ) → common_divisor 0 b ≡ b
zero-common_divisor b = sym (gcd_is 0 b b (dvd-zero b, dvd_refl b, λ d _ h. h))

pub common_divisor-assoc : (a b c : ℕ) → common_divisor (common_divisor a b) c ≡ common_divisor a (common_divisor b c)
common_divisor-assoc a b c =
    let ab = common_divisor-gcd a b in
    let bc = common_divisor-gcd b c in
    let all = common_divisor-gcd (common_divisor a b) c in
    let g = common_divisor (common_divisor a b) c in
    gcd_is a (common_divisor b c) g (dvd_trans g all.0 ab.0, bc.2 g (dvd_trans g all.0 ab.1) all.1, λ d h k. all.2 d (ab.2 d h (dvd_trans d k bc.0)) (dvd_trans d k bc.1))

-- the step of a running divisor
pub divisor-step : (g n : ℕ) (ns all : List ℕ) (new : ℕ) → common_divisor g (divisor_of_all (n ∷ ns)) ≡ divisor_of_all all → IsGcd g n new → common_divisor new (divisor_of_all ns) ≡ divisor_of_all all
divisor-step g n ns all new h is =
    ap (λ (k : ℕ). common_divisor k (divisor_of_all ns)) (gcd_is g n new is) ∙ (common_divisor-assoc g n (divisor_of_all ns) ∙ h)

-- ---- what divides all
weaken_dividing : (f g : ℕ) (ns : List ℕ) → g ∣ f → AllByRecursion (λ n. f ∣ n) ns → AllByRecursion (λ n. g ∣ n) ns
weaken_dividing f g [] h all = tt
weaken_dividing f g (n ∷ ns) h all = (dvd_trans g h all.0, weaken_dividing f g ns h all.1)

pub divisor_of_all-divides : (ns : List ℕ) → AllByRecursion (λ n. divisor_of_all ns ∣ n) ns
divisor_of_all-divides [] = tt
divisor_of_all-divides (n ∷ ns) =
    let g = common_divisor-gcd n (divisor_of_all ns) in
    (g.0, weaken_dividing (divisor_of_all ns) (divisor_of_all (n ∷ ns)) ns g.1 (divisor_of_all-divides ns))

pub divisor_of_all-common : (ns : List ℕ) → All (λ n. divisor_of_all ns ∣ n) ns
divisor_of_all-common ns = All-from_recursion (λ n. divisor_of_all ns ∣ n) ns (divisor_of_all-divides ns)

greatest_of : (ns : List ℕ) (d : ℕ) → AllByRecursion (λ n. d ∣ n) ns → d ∣ divisor_of_all ns
greatest_of [] d all = dvd-zero d
greatest_of (n ∷ ns) d all = (common_divisor-gcd n (divisor_of_all ns)).2 d all.0 (greatest_of ns d all.1)

pub divisor_of_all-greatest : (ns : List ℕ) (d : ℕ) → All (λ n. d ∣ n) ns → d ∣ divisor_of_all ns
divisor_of_all-greatest ns d all = greatest_of ns d (recursion_from_All (λ n. d ∣ n) ns all)

pub divisor_of_all-small : (m : ℕ) (ns : List ℕ) → 0 < m → AllByRecursion (λ n. n < m) ns → divisor_of_all ns < m
divisor_of_all-small m [] h all = h
divisor_of_all-small m (zero ∷ ns) h all = rw (zero-common_divisor (divisor_of_all ns)) (divisor_of_all-small m ns h all.1)
divisor_of_all-small m (suc n ∷ ns) h all =
    let at_most : divisor_of_all (suc n ∷ ns) ≤ suc n = le_of_dvd (omega arith) (common_divisor-gcd (suc n) (divisor_of_all ns)).0 in
    omega (arith, at_most, all.0)

-- ---- a divisor of at most 1 changes nothing
divided_same : (d n : ℕ) → d ≤ 1 → d ∣ n → n / d ≡ n
divided_same zero n h e = rw (eq-zero_of_zero-dvd e) refl
divided_same (suc zero) n h e = omega arith
divided_same (suc (suc d)) n h e = absurd (omega arith)

map_divided_same : (d : ℕ) (ns : List ℕ) → d ≤ 1 → AllByRecursion (λ n. d ∣ n) ns → map (λ n. n / d) ns ≡ ns
map_divided_same d [] h all = refl
map_divided_same d (n ∷ ns) h all = ap₂ (λ (k : ℕ) (ks : List ℕ). k ∷ ks) (divided_same d n h all.0) (map_divided_same d ns h all.1)

pub reduced-same : (ns : List ℕ) → divisor_of_all ns ≤ 1 → reduced ns ≡ ns
reduced-same ns h = map_divided_same (divisor_of_all ns) ns h (divisor_of_all-divides ns)

pub exactly : (d n : ℕ) → 0 < d → d ∣ n → n ≡ d * (n / d)
exactly d n h e = let z : n % d ≡ 0 = mod-eq-zero_of_dvd d e in omega arith
