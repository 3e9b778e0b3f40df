-- The lexicographic order of vectors.
use Rattle.std.proofs.Common.{◌≡◌, ℕ, Bool, true, false, not, ◌&&◌, ◌||◌, ◌==◌, List, [], ◌∷◌, refl, sym, ap₂, subst, arith, nat_lt}
use Rattle.std.proofs.lemmas.Bool.Decides.{nat_tests}
use Rattle.ps_elim.specs.Supports.{has_support_of, is_inside, is_less}

-- two vectors of which neither is less
pub is_less-irreflexive : (v : List ℕ) → is_less v v ≡ false
is_less-irreflexive [] = refl
is_less-irreflexive (n ∷ v) = first (nat_lt n n) (n == n) (is_less v v) (grind (arith, nat_tests)) (is_less-irreflexive v)
  where
    first : (a b r : Bool) → a ≡ false → r ≡ false → (a || (b && r)) ≡ false
    first a true r e f = rw (e, f) refl
    first a false r e f = rw e refl

pub is_less-trans : (u v w : List ℕ) → is_less u v ≡ true → is_less v w ≡ true → is_less u w ≡ true
is_less-trans [] [] w e f = absurd (false_true e)
  where
    false_true : false ≡ true → ⊥
    false_true h = cc
is_less-trans [] (n ∷ v) [] e f = f
is_less-trans [] (n ∷ v) (k ∷ w) e f = refl
is_less-trans (m ∷ u) [] w e f = cc
is_less-trans (m ∷ u) (n ∷ v) [] e f = cc
is_less-trans (m ∷ u) (n ∷ v) (k ∷ w) e f =
    joined m n k (is_less u v) (is_less v w) (is_less u w) (λ g h. is_less-trans u v w g h) e f
  where
    joined : (a b d : ℕ) (p q r : Bool) → (p ≡ true → q ≡ true → r ≡ true) → (nat_lt a b || (a == b && p)) ≡ true → (nat_lt b d || (b == d && q)) ≡ true → (nat_lt a d || (a == d && r)) ≡ true
    joined a b d true true r h g k = let t : r ≡ true = h refl refl in grind (arith, nat_tests)
    joined a b d true false r h g k = grind (arith, nat_tests)
    joined a b d false true r h g k = grind (arith, nat_tests)
    joined a b d false false r h g k = grind (arith, nat_tests)

-- vectors of one length with different supports are different
pub is_inside_itself : (v : List ℕ) → is_inside v v ≡ true
is_inside_itself [] = refl
is_inside_itself (n ∷ v) = first (n == 0) (is_inside v v) (is_inside_itself v)
  where
    first : (a r : Bool) → r ≡ true → ((a || not a) && r) ≡ true
    first true r e = e
    first false r e = e

pub same_unless_less : (u v : List ℕ) → is_less u v ≡ false → is_less v u ≡ false → u ≡ v
same_unless_less [] [] e f = refl
same_unless_less [] (n ∷ v) e f = cc
same_unless_less (m ∷ u) [] e f = cc
same_unless_less (m ∷ u) (n ∷ v) e f =
    let heads : m ≡ n = same_heads m n (is_less u v) (is_less v u) e f in
    let left : is_less u v ≡ false = rest m n (is_less u v) heads e in
    let right : is_less v u ≡ false = rest n m (is_less v u) (sym heads) f in
    ap₂ (λ (k : ℕ) (w : List ℕ). k ∷ w) heads (same_unless_less u v left right)
  where
    same_heads : (a b : ℕ) (p q : Bool) → (nat_lt a b || (a == b && p)) ≡ false → (nat_lt b a || (b == a && q)) ≡ false → a ≡ b
    same_heads a b p q g h = grind (arith, nat_tests)

    rest : (a b : ℕ) (p : Bool) → a ≡ b → (nat_lt a b || (a == b && p)) ≡ false → p ≡ false
    rest a b true g h = grind (arith, nat_tests)
    rest a b false g h = refl

pub differs_unless_same : (u v : List ℕ) → has_support_of u v ≡ false → (is_less u v || is_less v u) ≡ true
differs_unless_same u v h = by_tests (is_less u v) refl (is_less v u) refl
  where
    same : u ≡ v → has_support_of u v ≡ true
    same e = subst (λ (w : List ℕ). has_support_of u w ≡ true) e (ap₂ (λ (a b : Bool). a && b) (is_inside_itself u) (is_inside_itself u))

    by_tests : (p : Bool) → is_less u v ≡ p → (q : Bool) → is_less v u ≡ q → (p || q) ≡ true
    by_tests true e q f = refl
    by_tests false e true f = refl
    by_tests false e false f = let g : has_support_of u v ≡ true = same (same_unless_less u v e f) in cc
