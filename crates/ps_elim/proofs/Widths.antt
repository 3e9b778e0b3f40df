-- The width of the first stage is that of the signs of the rows.
use Rattle.std.proofs.Common.{◌≡◌, ◌<◌, ℕ, suc, ◌+◌, ◌*◌, ℤ, Bool, true, false, if◌then◌else◌, List, [], ◌∷◌, length, get_or, drop, map, replicate, Some, slice_get, refl, sym, ap, ap₂, ◌∙◌, subst, arith}
use Rattle.std.specs.List.{filter}
use Rattle.std.proofs.lemmas.Int.{ints}
use Rattle.std.proofs.lemmas.List.{drop_more}
use Rattle.ps_elim.specs.Combining.{width}
use Rattle.ps_elim.specs.Elimination.{IsTooWide}
use Rattle.ps_elim.specs.Stages.{first_set, variables, StopsAtStage}
use Rattle.ps_elim.specs.Vectors.{coefficient_under, units}
use Rattle.ps_elim.specs.inner.Weighing.{is_of}
use Rattle.ps_elim.specs.inner.Width.{width_of_rows}
use Rattle.ps_elim.specs.declared.limits.TheConstants.{MOST_VECTORS}
use Rattle.ps_elim.specs.declared.sign.Sign.TheVariants.{Zero, Positive, Negative}
use Rattle.ps_elim.proofs.Eliminating.{WideAt}
use Rattle.ps_elim.proofs.Units.{weighted-zeros}
use Rattle.ps_farkas.specs.Refutes.{weighted}
use Rattle.ps_term.specs.Pairs.{coefficient}
use Rattle.ps_term.specs.declared.row.Row.{Row}
use Rattle.ps_term.specs.declared.term.Term.{Term}
use Rattle.ps_term.specs.declared.var.Var.{Var}
use Rattle.ps_term.proofs.Ring.{one-mul, zero-mul}

-- ---- what a unit vector makes is its row
shifted : (part : Term → ℤ) (r : Row) (rs : List Row) (vs : List (List ℕ)) → map (λ v. weighted part (r ∷ rs) v) (map (λ v. 0 ∷ v) vs) ≡ map (λ v. weighted part rs v) vs
shifted part r rs [] = refl
shifted part r rs (v ∷ vs) =
    let first : weighted part (r ∷ rs) (0 ∷ v) ≡ weighted part rs v = omega (arith, ints, zero-mul (part r.term)) in
    ap₂ (λ (n : ℤ) (ns : List ℤ). n ∷ ns) first (shifted part r rs vs)

units_values : (part : Term → ℤ) (rows : List Row) → map (λ v. weighted part rows v) (units (length rows)) ≡ map (λ r. part r.term) rows
units_values part [] = refl
units_values part (r ∷ rs) =
    let first : weighted part (r ∷ rs) (1 ∷ replicate (length rs) 0) ≡ part r.term = omega (arith, ints, one-mul (part r.term), weighted-zeros part rs (length rs)) in
    ap₂ (λ (n : ℤ) (ns : List ℤ). n ∷ ns) first (shifted part r rs (units (length rs)) ∙ units_values part rs)

-- ---- how many pass a test of their values
as_long : {X Y : Type 0} (t : Bool) (x : X) (xs : List X) (y : Y) (ys : List Y) → length xs ≡ length ys → length (if t then x ∷ xs else xs) ≡ length (if t then y ∷ ys else ys)
as_long true x xs y ys e = ap suc e
as_long false x xs y ys e = e

by_values : {X : Type 0} (test : ℤ → Bool) (f : X → ℤ) (xs : List X) → length (filter (λ x. test (f x)) xs) ≡ length (filter test (map f xs))
by_values test f [] = refl
by_values test f (x ∷ xs) =
    as_long (test (f x)) x (filter (λ y. test (f y)) xs) (f x) (filter test (map f xs)) (by_values test f xs)

units_count : (test : ℤ → Bool) (x : Var) (rows : List Row) → length (filter (λ r. test (coefficient x r.term.pairs)) rows) ≡ length (filter (λ v. test (coefficient_under rows x v)) (units (length rows)))
units_count test x rows =
    by_values test (λ (r : Row). coefficient x r.term.pairs) rows
    ∙ (ap (λ (ns : List ℤ). length (filter test ns)) (sym (units_values (λ t. coefficient x t.pairs) rows))
    ∙ sym (by_values test (λ (v : List ℕ). coefficient_under rows x v) (units (length rows))))

pub width_is : (x : Var) (rows : List Row) → width_of_rows x rows ≡ width rows x (first_set rows)
width_is x rows =
    ap₂ (λ (m n : ℕ). m + n) (units_count (is_of Zero) x rows) (ap₂ (λ (m n : ℕ). m * n) (units_count (is_of Positive) x rows) (units_count (is_of Negative) x rows))

-- ---- the first variable
first_is : (x : Var) (xs : List Var) → Some x ≡ slice_get xs 0 → xs ≡ x ∷ drop 1 xs
first_is x [] e = cc
first_is x (y ∷ ys) e = let same : y ≡ x = cc in ap (λ (z : Var). z ∷ ys) same

pub wide_first : (rows : List Row) (xs : List Var) (x : Var) (count : ℕ) → xs ≡ variables rows → Some x ≡ slice_get xs 0 → count ≡ width_of_rows x rows → MOST_VECTORS < count → IsTooWide rows 0 count
wide_first rows xs x count is first e more =
    let same : count ≡ width rows x (first_set rows) = e ∙ width_is x rows in
    let here : StopsAtStage (WideAt rows count) rows (first_set rows) (x ∷ drop 1 xs) 0 = (subst (λ (n : ℕ). MOST_VECTORS < n) same more, same) in
    subst (λ (ys : List Var). StopsAtStage (WideAt rows count) rows (first_set rows) ys 0) (sym (first_is x xs first) ∙ is) here

-- ---- counting row by row
pub count_step : (test : Row → Bool) (rows : List Row) (i : ℕ) (r : Row) → i < length rows → r ≡ get_or rows i r → (t : Bool) → test r ≡ t → length (filter test (drop i rows)) ≡ (if t then 1 else 0) + length (filter test (drop (i + 1) rows))
count_step test rows i r l is t e = ap (λ (rs : List Row). length (filter test rs)) front ∙ by_test t e
  where
    front : drop i rows ≡ r ∷ drop (i + 1) rows
    front = drop_more rows i r l ∙ ap (λ (s : Row). s ∷ drop (i + 1) rows) (sym is)

    by_test : (u : Bool) → test r ≡ u → length (filter test (r ∷ drop (i + 1) rows)) ≡ (if u then 1 else 0) + length (filter test (drop (i + 1) rows))
    by_test true f = rw f (omega arith)
    by_test false f = rw f (omega arith)
