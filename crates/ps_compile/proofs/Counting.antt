-- How many alternatives and paths there are, without making them.
use Rattle.std.proofs.Common.{◌≡◌, Bool, true, false, not, refl, sym, ◌∙◌, ap, ap₂, ℕ, suc, ◌+◌, ◌*◌, List, [], ◌∷◌, ◌++◌, map, length, arith, if◌then◌else◌, length-append}
use Rattle.ps_graph.specs.Alternatives.{Bound, product, alternatives}
use Rattle.ps_compile.specs.inner.Counts.{going, failing, paths_of}
use Rattle.ps_graph.specs.Paths.{Act, Guards, Assigns, Havocs, Chooses, Fails, is_failing, guarded_by, ways, followed, paths, paths_all}
use Rattle.std.proofs.lemmas.List.{length-map}
use Rattle.ps_tree.specs.declared.cond.Test.{Test}
use Rattle.ps_tree.specs.declared.cond.Test.TheVariants.{Star, Cond as Where}
use Rattle.ps_tree.specs.declared.stmt.Stmt.{Stmt}
use Rattle.ps_tree.specs.declared.stmt.StmtKind.{Row_of-Stmt, end_of-Stmt, more_of-Stmt, items-the_row-Stmt}
use Rattle.ps_tree.specs.declared.stmt.StmtKind.TheVariants.{Atomic, If}
use Rattle.ps_tree.specs.declared.stmt.StmtKind.TheBlock.{hidden-the_row-Stmt-0, items_hidden-the_row-Stmt-0}

-- every one of the first with every one of the second
pub length-product : {X : Type 0} (xs ys : List (List X)) → length (product xs ys) ≡ length xs * length ys
length-product [] ys = omega arith
length-product {X} (x ∷ xs) ys =
    length-append (map (λ (y : List X). x ++ y) ys) (product xs ys)
    ∙ ap₂ (λ (m n : ℕ). m + n) (length-map ys (λ (y : List X). x ++ y)) (length-product xs ys)
    ∙ more (length xs) (length ys)
  where
    more : (m n : ℕ) → n + m * n ≡ suc m * n
    more m n = omega arith

pub all_paths : (ps : List (List Act)) → length ps ≡ going ps + failing ps
all_paths [] = refl
all_paths (p ∷ ps) = at (is_failing p) (all_paths ps)
  where
    at : (t : Bool) → length ps ≡ going ps + failing ps → suc (length ps) ≡ ((if t then 0 else 1) + going ps) + ((if t then 1 else 0) + failing ps)
    at true e = omega (arith, e)
    at false e = omega (arith, e)

pub going_append : (ps qs : List (List Act)) → going (ps ++ qs) ≡ going ps + going qs
going_append [] qs = omega arith
going_append (p ∷ ps) qs = omega (arith, going_append ps qs)

pub failing_append : (ps qs : List (List Act)) → failing (ps ++ qs) ≡ failing ps + failing qs
failing_append [] qs = omega arith
failing_append (p ∷ ps) qs = omega (arith, failing_append ps qs)

-- a path after one that doesn't fail fails where it does
fails_after : (p q : List Act) → is_failing p ≡ false → is_failing (p ++ q) ≡ is_failing q
fails_after [] q e = refl
fails_after (Guards b ∷ p) q e = fails_after p q e
fails_after (Assigns x s ∷ p) q e = fails_after p q e
fails_after (Havocs x ∷ p) q e = fails_after p q e
fails_after (Chooses b ∷ p) q e = fails_after p q e
fails_after (Fails ∷ p) q e = cc

going_after : (p : List Act) (qs : List (List Act)) → is_failing p ≡ false → going (map (λ (q : List Act). p ++ q) qs) ≡ going qs
going_after p [] e = refl
going_after p (q ∷ qs) e = ap₂ (λ (t : Bool) (n : ℕ). (if t then 0 else 1) + n) (fails_after p q e) (going_after p qs e)

failing_after : (p : List Act) (qs : List (List Act)) → is_failing p ≡ false → failing (map (λ (q : List Act). p ++ q) qs) ≡ failing qs
failing_after p [] e = refl
failing_after p (q ∷ qs) e = ap₂ (λ (t : Bool) (n : ℕ). (if t then 1 else 0) + n) (fails_after p q e) (failing_after p qs e)

-- of paths after paths, those that don't fail are every one after every one
pub going_followed : (ps qs : List (List Act)) → going (followed ps qs) ≡ going ps * going qs
going_followed [] qs = omega arith
going_followed (p ∷ ps) qs = at (is_failing p) refl (going_followed ps qs)
  where
    at : (t : Bool) → is_failing p ≡ t → going (followed ps qs) ≡ going ps * going qs →
        going ((if t then p ∷ [] else map (λ (q : List Act). p ++ q) qs) ++ followed ps qs) ≡ ((if t then 0 else 1) + going ps) * going qs
    at true e h = ap (λ (f : Bool). (if f then 0 else 1) + going (followed ps qs)) e ∙ none (going (followed ps qs)) (going ps) (going qs) h
      where
        none : (x m n : ℕ) → x ≡ m * n → 0 + x ≡ (0 + m) * n
        none x m n h = omega (arith, h)
    at false e h =
        going_append (map (λ (q : List Act). p ++ q) qs) (followed ps qs)
        ∙ ap₂ (λ (m n : ℕ). m + n) (going_after p qs e) h ∙ more (going ps) (going qs)
      where
        more : (m n : ℕ) → n + m * n ≡ (1 + m) * n
        more m n = omega arith

-- and those that fail are the failed ones of the first, and every one after every one that doesn't
pub failing_followed : (ps qs : List (List Act)) → failing (followed ps qs) ≡ failing ps + going ps * failing qs
failing_followed [] qs = omega arith
failing_followed (p ∷ ps) qs = at (is_failing p) refl (failing_followed ps qs)
  where
    at : (t : Bool) → is_failing p ≡ t → failing (followed ps qs) ≡ failing ps + going ps * failing qs →
        failing ((if t then p ∷ [] else map (λ (q : List Act). p ++ q) qs) ++ followed ps qs)
        ≡ ((if t then 1 else 0) + failing ps) + ((if t then 0 else 1) + going ps) * failing qs
    at true e h =
        ap (λ (f : Bool). (if f then 1 else 0) + failing (followed ps qs)) e ∙ ap (λ (n : ℕ). 1 + n) h
        ∙ more (failing ps) (going ps) (failing qs)
      where
        more : (l m n : ℕ) → 1 + (l + m * n) ≡ (1 + l) + (0 + m) * n
        more l m n = omega arith
    at false e h =
        failing_append (map (λ (q : List Act). p ++ q) qs) (followed ps qs)
        ∙ ap₂ (λ (m n : ℕ). m + n) (failing_after p qs e) h ∙ more (failing ps) (going ps) (failing qs)
      where
        more : (l m n : ℕ) → n + (l + m * n) ≡ (0 + l) + (1 + m) * n
        more l m n = omega arith

-- alternatives as paths: none fails, and with a failed assertion at the end each does
pub going_guarded : (alts : List (List Bound)) → going (map guarded_by alts) ≡ length alts
going_guarded [] = refl
going_guarded (bs ∷ alts) = ap₂ (λ (t : Bool) (n : ℕ). (if t then 0 else 1) + n) (fine bs) (going_guarded alts) ∙ (let e : 1 + length alts ≡ suc (length alts) = omega arith in e)
  where
    fine : (bs : List Bound) → is_failing (guarded_by bs) ≡ false
    fine [] = refl
    fine (b ∷ bs) = fine bs

pub failing_guarded : (alts : List (List Bound)) → failing (map guarded_by alts) ≡ 0
failing_guarded alts = omega (arith, all_paths (map guarded_by alts), going_guarded alts, length-map alts guarded_by)

pub failing_failed : (alts : List (List Bound)) → failing (map (λ (bs : List Bound). guarded_by bs ++ Fails ∷ []) alts) ≡ length alts
failing_failed [] = refl
failing_failed (bs ∷ alts) = ap₂ (λ (t : Bool) (n : ℕ). (if t then 1 else 0) + n) (broken bs) (failing_failed alts) ∙ (let e : 1 + length alts ≡ suc (length alts) = omega arith in e)
  where
    broken : (bs : List Bound) → is_failing (guarded_by bs ++ Fails ∷ []) ≡ true
    broken [] = refl
    broken (b ∷ bs) = broken bs

pub going_failed : (alts : List (List Bound)) → going (map (λ (bs : List Bound). guarded_by bs ++ Fails ∷ []) alts) ≡ 0
going_failed alts =
    omega (arith, all_paths (map (λ (bs : List Bound). guarded_by bs ++ Fails ∷ []) alts), failing_failed alts, length-map alts (λ (bs : List Bound). guarded_by bs ++ Fails ∷ []))

-- ---- rows are lists

paths_row : {n : _} (row : Row_of-Stmt n) → paths_all row ≡ paths_of (items-the_row-Stmt n row)
paths_row end_of-Stmt = refl
paths_row (more_of-Stmt _ k rest) = ap (followed (paths k)) (paths_row rest)

pub paths_list : (b : List Stmt) → paths_all (hidden-the_row-Stmt-0 b) ≡ paths_of b
paths_list b = paths_row (hidden-the_row-Stmt-0 b) ∙ ap paths_of (items_hidden-the_row-Stmt-0 b)

pub atomic_is : (b : List Stmt) → paths (Atomic b) ≡ paths_of b
atomic_is b = paths_list b

pub if_is : (t : Test) (a b : List Stmt) → paths (If t a b) ≡ followed (ways true t) (paths_of a) ++ followed (ways false t) (paths_of b)
if_is t a b = ap₂ (λ (x y : List (List Act)). followed (ways true t) x ++ followed (ways false t) y) (paths_list a) (paths_list b)

-- the ways of a test don't fail
pub going_ways : (h : Bool) (t : Test) → going (ways h t) ≡ length (ways h t)
going_ways h Star = refl
going_ways h (Where c) = going_guarded (alternatives h c) ∙ sym (length-map (alternatives h c) guarded_by)

pub failing_ways : (h : Bool) (t : Test) → failing (ways h t) ≡ 0
failing_ways h Star = refl
failing_ways h (Where c) = failing_guarded (alternatives h c)
