-- One turn of each count, and its end.
use Rattle.std.proofs.Common.{◌≡◌, Bool, true, false, sym, ◌∙◌, ap, ap₂, ℕ, suc, ◌+◌, ◌-◌, ◌*◌, ◌^◌, ◌<◌, ◌≤◌, min, arith, List, [], ◌∷◌, map, length, drop, get_or, drop-cons, drop_of_length-le, length-append}
use Rattle.ps_compile.proofs.Counting.{length-product, going_append, failing_append, going_followed, failing_followed, going_guarded, failing_guarded, going_failed, failing_failed, going_ways, failing_ways, atomic_is, if_is}
use Rattle.ps_graph.specs.Alternatives.{Bound, of_relation, opposite, alternatives}
use Rattle.ps_compile.specs.inner.Counts.{going, failing, paths_of, held_alternatives}
use Rattle.ps_compile.specs.inner.Members.{any_of, each_of}
use Rattle.ps_graph.specs.Paths.{Act, guarded_by, ways, followed, paths}
use Rattle.ps_tree.specs.declared.cond.Cond.{Cond, Rel}
use Rattle.ps_tree.specs.declared.cond.Test.{Test}
use Rattle.ps_tree.specs.declared.relation.Relation.{Relation}
use Rattle.ps_tree.specs.declared.relation.Sign.{Sign}
use Rattle.ps_tree.specs.declared.relation.Sign.TheVariants.{Less, LessEq, Greater, GreaterEq, Equal, NotEqual}
use Rattle.ps_tree.specs.declared.stmt.Stmt.{Stmt}
use Rattle.ps_tree.specs.declared.stmt.StmtKind.{StmtKind}
use Rattle.ps_tree.specs.declared.stmt.StmtKind.TheVariants.{Assume, Assert, Atomic, If}
use Rattle.ps_tree.specs.declared.sum.Sum.{Sum}
use Rattle.ps_compile.proofs.Caps.{cap_product, step_product, step_sum, step_failing}

-- ---- conditions

small : (s : Sign) (a b : Sum) → min (length (of_relation s a b)) 65 ≡ length (of_relation s a b)
small Less a b = omega arith
small LessEq a b = omega arith
small Greater a b = omega arith
small GreaterEq a b = omega arith
small Equal a b = omega arith
small NotEqual a b = omega arith

pub rel_counts : (h : Bool) (c : Cond) (r : Relation) (n : ℕ) → c ≡ Rel r → ((a b : Sum) → n ≡ length (held_alternatives h r.sign a b)) → n ≡ min (length (alternatives h c)) 65
rel_counts true c r n e k = k r.left r.right ∙ sym (small r.sign r.left r.right) ∙ ap (λ (d : Cond). min (length (alternatives true d)) 65) (sym e)
rel_counts false c r n e k = k r.left r.right ∙ sym (small (opposite r.sign) r.left r.right) ∙ ap (λ (d : Cond). min (length (alternatives false d)) 65) (sym e)

-- members counted by a law of lists
pub members_count : (v h : Bool) (c d : Cond) (ms slice : List Cond) (of : Bool → List Cond → List (List Bound)) (n : ℕ) →
    alternatives v d ≡ of v ms → c ≡ d → h ≡ v → slice ≡ ms → n ≡ min (length (of h slice)) 65 → n ≡ min (length (alternatives h c)) 65
members_count v h c d ms slice of n law e he se k =
    k ∙ ap (λ (l : List (List Bound)). min (length l) 65) (ap₂ of he se ∙ sym law ∙ sym (ap₂ alternatives he e))

here : (ms : List Cond) (i : ℕ) (m : Cond) → i < length ms → m ≡ get_or ms i m → drop i ms ≡ m ∷ drop (i + 1) ms
here ms i m l e = drop-cons ms i m l ∙ ap₂ (λ (x : Cond) (k : ℕ). x ∷ drop k ms) (sym e) (let f : suc i ≡ i + 1 = omega arith in f)

pub each_step : (all sat new count : ℕ) (h : Bool) (m : Cond) (ms : List Cond) (i n : ℕ) → i < length ms → m ≡ get_or ms i m →
    min (all * length (each_of h (drop i ms))) 65 ≡ n → count ≡ min (length (alternatives h m)) 65 → sat ≡ min (all * count) (2 ^ 64 - 1) → new ≡ min sat 65 →
    (min (new * length (each_of h (drop (i + 1) ms))) 65 ≡ n) × (new ≤ 65)
each_step all sat new count h m ms i n l e inv c s d = (
  ap (λ (k : ℕ). min (k * length (each_of h (drop (i + 1) ms))) 65) is
      ∙ step_product all (length (alternatives h m)) (length (each_of h (drop (i + 1) ms)))
      ∙ ap (λ (k : ℕ). min (all * k) 65) (sym (length-product (alternatives h m) (each_of h (drop (i + 1) ms))))
      ∙ ap (λ (l : List Cond). min (all * length (each_of h l)) 65) (sym (here ms i m l e)) ∙ inv,
  omega (arith, d),
)
  where
    is : new ≡ min (all * min (length (alternatives h m)) 65) 65
    is = d ∙ ap (λ (k : ℕ). min k 65) s ∙ (let f : min (min (all * count) (2 ^ 64 - 1)) 65 ≡ min (all * count) 65 = omega arith in f) ∙ ap (λ (k : ℕ). min (all * k) 65) c

pub any_step : (all sat new count : ℕ) (h : Bool) (m : Cond) (ms : List Cond) (i n : ℕ) → i < length ms → m ≡ get_or ms i m →
    min (all + length (any_of h (drop i ms))) 65 ≡ n → count ≡ min (length (alternatives h m)) 65 → sat ≡ min (all + count) (2 ^ 64 - 1) → new ≡ min sat 65 →
    (min (new + length (any_of h (drop (i + 1) ms))) 65 ≡ n) × (new ≤ 65)
any_step all sat new count h m ms i n l e inv c s d = (
  ap (λ (k : ℕ). min (k + length (any_of h (drop (i + 1) ms))) 65) is
      ∙ step_sum all (length (alternatives h m)) (length (any_of h (drop (i + 1) ms)))
      ∙ ap (λ (k : ℕ). min (all + k) 65) (sym (length-append (alternatives h m) (any_of h (drop (i + 1) ms))))
      ∙ ap (λ (l : List Cond). min (all + length (any_of h l)) 65) (sym (here ms i m l e)) ∙ inv,
  omega (arith, d),
)
  where
    is : new ≡ min (all + min (length (alternatives h m)) 65) 65
    is = d ∙ ap (λ (k : ℕ). min k 65) s ∙ (let f : min (min (all + count) (2 ^ 64 - 1)) 65 ≡ min (all + count) 65 = omega arith in f) ∙ ap (λ (k : ℕ). min (all + k) 65) c

pub each_end : (all : ℕ) (h : Bool) (ms : List Cond) (i n : ℕ) → length ms ≤ i → min (all * length (each_of h (drop i ms))) 65 ≡ n → all ≤ 65 → all ≡ n
each_end all h ms i n l e b =
    let f : all ≡ min (all * 1) 65 = omega (arith, b) in
    f ∙ ap (λ (r : List Cond). min (all * length (each_of h r)) 65) (sym (drop_of_length-le ms l)) ∙ e

pub any_end : (all : ℕ) (h : Bool) (ms : List Cond) (i n : ℕ) → length ms ≤ i → min (all + length (any_of h (drop i ms))) 65 ≡ n → all ≤ 65 → all ≡ n
any_end all h ms i n l e b =
    let f : all ≡ min (all + 0) 65 = omega (arith, b) in
    f ∙ ap (λ (r : List Cond). min (all + length (any_of h r)) 65) (sym (drop_of_length-le ms l)) ∙ e

-- ---- paths

stmt_here : (ms : List Stmt) (i : ℕ) (m : Stmt) → i < length ms → m ≡ get_or ms i m → drop i ms ≡ m ∷ drop (i + 1) ms
stmt_here ms i m l e = drop-cons ms i m l ∙ ap₂ (λ (x : Stmt) (k : ℕ). x ∷ drop k ms) (sym e) (let f : suc i ≡ i + 1 = omega arith in f)

-- the counts of a block, with what is left
abbrev pub Counting : ℕ → ℕ → List (List Act) → List (List Act) → Type 0
Counting g f left all = (min (g * going left) 65 ≡ min (going all) 65) × (min (f + g * failing left) 65 ≡ min (failing all) 65) × (g ≤ 65) × (f ≤ 65)

pub block_step : (g f sat g2 f2 : ℕ) (nextg nextf : ℕ) (s : Stmt) (ms : List Stmt) (i : ℕ) (all : List (List Act)) → i < length ms → s ≡ get_or ms i s →
    Counting g f (paths_of (drop i ms)) all → nextg ≡ min (going (paths s.kind)) 65 → nextf ≡ min (failing (paths s.kind)) 65 →
    f2 ≡ min (1 * f + g * nextf) 65 → sat ≡ min (g * nextg) (2 ^ 64 - 1) → g2 ≡ min sat 65 → Counting g2 f2 (paths_of (drop (i + 1) ms)) all
block_step g f sat g2 f2 nextg nextf s ms i all l e inv eg ef ff ss gg = (
  ap (λ (k : ℕ). min (k * going (paths_of (drop (i + 1) ms))) 65) isg
      ∙ step_product g (going (paths s.kind)) (going (paths_of (drop (i + 1) ms)))
      ∙ ap (λ (k : ℕ). min (g * k) 65) (sym (going_followed (paths s.kind) (paths_of (drop (i + 1) ms))))
      ∙ ap (λ (b : List Stmt). min (g * going (paths_of b)) 65) (sym (stmt_here ms i s l e)) ∙ inv.0,
  ap₂ (λ (j k : ℕ). min (j + k * failing (paths_of (drop (i + 1) ms))) 65) isf isg
      ∙ step_failing f g (failing (paths s.kind)) (going (paths s.kind)) (failing (paths_of (drop (i + 1) ms)))
      ∙ ap (λ (k : ℕ). min (f + g * k) 65) (sym (failing_followed (paths s.kind) (paths_of (drop (i + 1) ms))))
      ∙ ap (λ (b : List Stmt). min (f + g * failing (paths_of b)) 65) (sym (stmt_here ms i s l e)) ∙ inv.1,
  omega (arith, gg),
  omega (arith, ff),
)
  where
    isg : g2 ≡ min (g * min (going (paths s.kind)) 65) 65
    isg = gg ∙ ap (λ (k : ℕ). min k 65) ss ∙ (let h : min (min (g * nextg) (2 ^ 64 - 1)) 65 ≡ min (g * nextg) 65 = omega arith in h) ∙ ap (λ (k : ℕ). min (g * k) 65) eg

    isf : f2 ≡ min (f + g * min (failing (paths s.kind)) 65) 65
    isf = ff ∙ (let h : min (1 * f + g * nextf) 65 ≡ min (f + g * nextf) 65 = omega arith in h) ∙ ap (λ (k : ℕ). min (f + g * k) 65) ef

pub block_end : (g f : ℕ) (ms : List Stmt) (i : ℕ) (all : List (List Act)) → length ms ≤ i → Counting g f (paths_of (drop i ms)) all →
    (g ≡ min (going all) 65) × (f ≡ min (failing all) 65)
block_end g f ms i all l c =
    let d : drop i ms ≡ [] = drop_of_length-le ms l in
    let a : g ≡ min (g * 1) 65 = omega (arith, c.2) in
    let b : f ≡ min (f + g * 0) 65 = omega (arith, c.3) in
    (a ∙ ap (λ (r : List Stmt). min (g * going (paths_of r)) 65) (sym d) ∙ c.0, b ∙ ap (λ (r : List Stmt). min (f + g * failing (paths_of r)) 65) (sym d) ∙ c.1)

assume_going : (c : Cond) → going (paths (Assume c)) ≡ length (alternatives true c)
assume_going c = going_guarded (alternatives true c)

pub assume_counts : (k : StmtKind) (c : Cond) (n : ℕ) → k ≡ Assume c → n ≡ min (length (alternatives true c)) 65 → n ≡ min (going (paths k)) 65
assume_counts k c n e h = h ∙ ap (λ (m : ℕ). min m 65) (sym (assume_going c)) ∙ ap (λ (j : StmtKind). min (going (paths j)) 65) (sym e)

pub assume_fails : (k : StmtKind) (c : Cond) → k ≡ Assume c → 0 ≡ min (failing (paths k)) 65
assume_fails k c e = ap (λ (m : ℕ). min m 65) (sym (failing_guarded (alternatives true c))) ∙ ap (λ (j : StmtKind). min (failing (paths j)) 65) (sym e)

pub assert_counts : (k : StmtKind) (c : Cond) (n : ℕ) → k ≡ Assert c → n ≡ min (length (alternatives true c)) 65 → n ≡ min (going (paths k)) 65
assert_counts k c n e h =
    h ∙ ap (λ (m : ℕ). min m 65) (sym (going_append (map guarded_by (alternatives true c)) _
    ∙ ap₂ (λ (x y : ℕ). x + y) (going_guarded (alternatives true c)) (going_failed (alternatives false c))
    ∙ (let f : length (alternatives true c) + 0 ≡ length (alternatives true c) = omega arith in f)))
    ∙ ap (λ (j : StmtKind). min (going (paths j)) 65) (sym e)

pub assert_fails : (k : StmtKind) (c : Cond) (n : ℕ) → k ≡ Assert c → n ≡ min (length (alternatives false c)) 65 → n ≡ min (failing (paths k)) 65
assert_fails k c n e h =
    h ∙ ap (λ (m : ℕ). min m 65) (sym (failing_append (map guarded_by (alternatives true c)) _
    ∙ ap₂ (λ (x y : ℕ). x + y) (failing_guarded (alternatives true c)) (failing_failed (alternatives false c))
    ∙ (let f : 0 + length (alternatives false c) ≡ length (alternatives false c) = omega arith in f)))
    ∙ ap (λ (j : StmtKind). min (failing (paths j)) 65) (sym e)

-- counted by a number of a list of paths
pub atomic_counts : (of : List (List Act) → ℕ) (k : StmtKind) (b slice : List Stmt) (n : ℕ) → k ≡ Atomic b → slice ≡ b → n ≡ min (of (paths_of slice)) 65 → n ≡ min (of (paths k)) 65
atomic_counts of k b slice n e s h =
    h ∙ ap (λ (l : List (List Act)). min (of l) 65) (ap paths_of s ∙ sym (atomic_is b) ∙ ap paths (sym e))

products : (a b c d : ℕ) → min (min a 65 * min b 65 + min c 65 * min d 65) 65 ≡ min (a * b + c * d) 65
products a b c d = parts (min a 65 * min b 65) (a * b) (min c 65 * min d 65) (c * d) (cap_product a b) (cap_product c d)
  where
    parts : (w x y z : ℕ) → min w 65 ≡ min x 65 → min y 65 ≡ min z 65 → min (w + y) 65 ≡ min (x + z) 65
    parts w x y z h k = omega (arith, h, k)

pub if_counts : (k : StmtKind) (t : Test) (x y sx sy : List Stmt) (h f gx gy n : ℕ) → k ≡ If t x y → sx ≡ x → sy ≡ y → h ≡ min (length (ways true t)) 65 → f ≡ min (length (ways false t)) 65 →
    gx ≡ min (going (paths_of sx)) 65 → gy ≡ min (going (paths_of sy)) 65 → n ≡ min (h * gx + f * gy) 65 → n ≡ min (going (paths k)) 65
if_counts k t x y sx sy h f gx gy n e ex ey eh ef egx egy en =
    en ∙ ap₂ (λ (i j : ℕ). min (i + j) 65) (ap₂ (λ (i j : ℕ). i * j) eh egx) (ap₂ (λ (i j : ℕ). i * j) ef egy)
    ∙ products (length (ways true t)) (going (paths_of sx)) (length (ways false t)) (going (paths_of sy))
    ∙ ap (λ (m : ℕ). min m 65) (ap₂ (λ (i j : ℕ). i + j) (side true x sx ex) (side false y sy ey) ∙ sym (going_append (followed (ways true t) (paths_of x)) (followed (ways false t) (paths_of y))))
    ∙ ap (λ (l : List (List Act)). min (going l) 65) (sym (if_is t x y) ∙ ap paths (sym e))
  where
    side : (b : Bool) (z sz : List Stmt) → sz ≡ z → length (ways b t) * going (paths_of sz) ≡ going (followed (ways b t) (paths_of z))
    side b z sz s = ap₂ (λ (i : ℕ) (j : List Stmt). i * going (paths_of j)) (sym (going_ways b t)) s ∙ sym (going_followed (ways b t) (paths_of z))

pub if_fails : (k : StmtKind) (t : Test) (x y sx sy : List Stmt) (h f gx gy n : ℕ) → k ≡ If t x y → sx ≡ x → sy ≡ y → h ≡ min (length (ways true t)) 65 → f ≡ min (length (ways false t)) 65 →
    gx ≡ min (failing (paths_of sx)) 65 → gy ≡ min (failing (paths_of sy)) 65 → n ≡ min (h * gx + f * gy) 65 → n ≡ min (failing (paths k)) 65
if_fails k t x y sx sy h f gx gy n e ex ey eh ef egx egy en =
    en ∙ ap₂ (λ (i j : ℕ). min (i + j) 65) (ap₂ (λ (i j : ℕ). i * j) eh egx) (ap₂ (λ (i j : ℕ). i * j) ef egy)
    ∙ products (length (ways true t)) (failing (paths_of sx)) (length (ways false t)) (failing (paths_of sy))
    ∙ ap (λ (m : ℕ). min m 65) (ap₂ (λ (i j : ℕ). i + j) (side true x sx ex) (side false y sy ey) ∙ sym (failing_append (followed (ways true t) (paths_of x)) (followed (ways false t) (paths_of y))))
    ∙ ap (λ (l : List (List Act)). min (failing l) 65) (sym (if_is t x y) ∙ ap paths (sym e))
  where
    side : (b : Bool) (z sz : List Stmt) → sz ≡ z → length (ways b t) * failing (paths_of sz) ≡ failing (followed (ways b t) (paths_of z))
    side b z sz s =
        ap₂ (λ (i : ℕ) (j : List Stmt). i * failing (paths_of j)) (sym (going_ways b t)) s
        ∙ (let f : going (ways b t) * failing (paths_of z) ≡ 0 + going (ways b t) * failing (paths_of z) = omega arith in f)
        ∙ ap (λ (i : ℕ). i + going (ways b t) * failing (paths_of z)) (sym (failing_ways b t)) ∙ sym (failing_followed (ways b t) (paths_of z))
