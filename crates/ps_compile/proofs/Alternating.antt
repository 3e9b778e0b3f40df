-- Alternatives as rows: each after each, and one turn of the loops over members.
use Rattle.std.proofs.Common.{◌≡◌, Bool, refl, sym, ◌∙◌, ap, ap₂, ℕ, suc, ◌+◌, ◌<◌, ◌≤◌, List, [], ◌∷◌, ◌++◌, map, length, drop, get_or, drop-cons, drop_of_length-le, append-nil, append_assoc, arith}
use Rattle.std.proofs.lemmas.List.{map-append}
use Rattle.ps_compile.specs.Ops.{bound_row}
use Rattle.ps_compile.specs.inner.Members.{each_of, any_of}
use Rattle.ps_graph.specs.Alternatives.{Bound, alternatives, product}
use Rattle.ps_term.specs.declared.row.Row.{Row}
use Rattle.ps_tree.specs.declared.cond.Cond.{Cond}

-- alternatives as rows
abbrev pub rows_of : List (List Bound) → List (List Row)
rows_of alts = map (map bound_row) alts

-- the list before each of the others
abbrev before_each : {X : Type 0} → List X → List (List X) → List (List X)
before_each {X} x ys = map (λ (y : List X). x ++ y) ys

-- ---- products of lists

before_append : {X : Type 0} (x : List X) (ys zs : List (List X)) → before_each x (ys ++ zs) ≡ before_each x ys ++ before_each x zs
before_append x [] zs = refl
before_append x (y ∷ ys) zs = ap (λ l. (x ++ y) ∷ l) (before_append x ys zs)

before_both : {X : Type 0} (x y : List X) (zs : List (List X)) → before_each (x ++ y) zs ≡ before_each x (before_each y zs)
before_both x y [] = refl
before_both {X} x y (z ∷ zs) = ap₂ (λ (a : List X) (b : List (List X)). a ∷ b) (append_assoc x y z) (before_both x y zs)

before_product : {X : Type 0} (x : List X) (ys zs : List (List X)) → product (before_each x ys) zs ≡ before_each x (product ys zs)
before_product x [] zs = refl
before_product {X} x (y ∷ ys) zs =
    ap₂ (λ (a b : List (List X)). a ++ b) (before_both x y zs) (before_product x ys zs)
    ∙ sym (before_append x (before_each y zs) (product ys zs))

product_append : {X : Type 0} (xs ys zs : List (List X)) → product (xs ++ ys) zs ≡ product xs zs ++ product ys zs
product_append [] ys zs = refl
product_append {X} (x ∷ xs) ys zs =
    ap (λ (l : List (List X)). before_each x zs ++ l) (product_append xs ys zs)
    ∙ sym (append_assoc (before_each x zs) (product xs zs) (product ys zs))

pub product_assoc : {X : Type 0} (xs ys zs : List (List X)) → product (product xs ys) zs ≡ product xs (product ys zs)
product_assoc [] ys zs = refl
product_assoc {X} (x ∷ xs) ys zs =
    product_append (before_each x ys) (product xs ys) zs
    ∙ ap₂ (λ (a b : List (List X)). a ++ b) (before_product x ys zs) (product_assoc xs ys zs)

before_nothing : {X : Type 0} (ys : List (List X)) → before_each [] ys ≡ ys
before_nothing [] = refl
before_nothing {X} (y ∷ ys) = ap (λ (l : List (List X)). y ∷ l) (before_nothing ys)

nothing_before : {X : Type 0} (ys : List (List X)) → product ([] ∷ []) ys ≡ ys
nothing_before ys = append-nil (before_each [] ys) ∙ before_nothing ys

nothing_after : {X : Type 0} (xs : List (List X)) → product xs ([] ∷ []) ≡ xs
nothing_after [] = refl
nothing_after {X} (x ∷ xs) = ap₂ (λ (a : List X) (b : List (List X)). a ∷ b) (append-nil x) (nothing_after xs)

-- ---- products of rows

before_rows : (x : List Bound) (ys : List (List Bound)) → rows_of (before_each x ys) ≡ before_each (map bound_row x) (rows_of ys)
before_rows x [] = refl
before_rows x (y ∷ ys) = ap₂ (λ (a : List Row) (b : List (List Row)). a ∷ b) (map-append bound_row x y) (before_rows x ys)

pub product_rows : (xs ys : List (List Bound)) → rows_of (product xs ys) ≡ product (rows_of xs) (rows_of ys)
product_rows [] ys = refl
product_rows (x ∷ xs) ys =
    map-append (map bound_row) (before_each x ys) (product xs ys)
    ∙ ap₂ (λ (a b : List (List Row)). a ++ b) (before_rows x ys) (product_rows xs ys)

-- one turn over the first lists
pub product_step : (xs ys : List (List Row)) (i : ℕ) (x d : List Row) (all new z : List (List Row)) → i < length xs → x ≡ get_or xs i d →
    all ++ product (drop i xs) ys ≡ z → new ≡ all ++ map (λ (y : List Row). x ++ y) ys → new ++ product (drop (i + 1) xs) ys ≡ z
product_step xs ys i x d all new z l e inv n =
    ap (λ (a : List (List Row)). a ++ product (drop (i + 1) xs) ys) n
    ∙ append_assoc all (before_each x ys) (product (drop (i + 1) xs) ys)
    ∙ ap (λ (a : List (List Row)). all ++ product a ys) (sym here) ∙ inv
  where
    here : drop i xs ≡ x ∷ drop (i + 1) xs
    here = drop-cons xs i d l ∙ ap₂ (λ (a : List Row) (k : ℕ). a ∷ drop k xs) (sym e) (let f : suc i ≡ i + 1 = omega arith in f)

-- ---- members, one by one

member_here : (cs : List Cond) (i : ℕ) (c d : Cond) → i < length cs → c ≡ get_or cs i d → drop i cs ≡ c ∷ drop (i + 1) cs
member_here cs i c d l e = drop-cons cs i d l ∙ ap₂ (λ (x : Cond) (k : ℕ). x ∷ drop k cs) (sym e) (let f : suc i ≡ i + 1 = omega arith in f)

pub each_start : (h : Bool) (cs : List Cond) → product ([] ∷ []) (rows_of (each_of h cs)) ≡ rows_of (each_of h cs)
each_start h cs = nothing_before (rows_of (each_of h cs))

pub each_step : (h : Bool) (cs : List Cond) (i : ℕ) (c d : Cond) (all next new z : List (List Row)) → i < length cs → c ≡ get_or cs i d →
    product all (rows_of (each_of h (drop i cs))) ≡ z → next ≡ rows_of (alternatives h c) → new ≡ product all next →
    product new (rows_of (each_of h (drop (i + 1) cs))) ≡ z
each_step h cs i c d all next new z l e inv n m =
    ap (λ (a : List (List Row)). product a (rows_of rest)) (m ∙ ap (product all) n)
    ∙ product_assoc all (rows_of (alternatives h c)) (rows_of rest)
    ∙ ap (product all) (sym (product_rows (alternatives h c) rest))
    ∙ ap (λ (l : List Cond). product all (rows_of (each_of h l))) (sym (member_here cs i c d l e)) ∙ inv
  where
    rest : List (List Bound)
    rest = each_of h (drop (i + 1) cs)

pub each_end : (h : Bool) (cs : List Cond) (i : ℕ) (all z : List (List Row)) → length cs ≤ i →
    product all (rows_of (each_of h (drop i cs))) ≡ z → all ≡ z
each_end h cs i all z l inv =
    sym (nothing_after all)
    ∙ ap (λ (r : List Cond). product all (rows_of (each_of h r))) (sym (drop_of_length-le cs l)) ∙ inv

pub each_none : (ys all z : List (List Row)) → length all ≡ 0 → product all ys ≡ z → all ≡ z
each_none ys [] z l inv = inv
each_none ys (a ∷ all) z l inv = let none : ⊥ = omega (arith, l) in absurd none

pub any_step : (h : Bool) (cs : List Cond) (i : ℕ) (c d : Cond) (all next new z : List (List Row)) → i < length cs → c ≡ get_or cs i d →
    all ++ rows_of (any_of h (drop i cs)) ≡ z → next ≡ rows_of (alternatives h c) → new ≡ all ++ next →
    new ++ rows_of (any_of h (drop (i + 1) cs)) ≡ z
any_step h cs i c d all next new z l e inv n m =
    ap (λ (a : List (List Row)). a ++ rows_of rest) (m ∙ ap (λ (b : List (List Row)). all ++ b) n)
    ∙ append_assoc all (rows_of (alternatives h c)) (rows_of rest)
    ∙ ap (λ (b : List (List Row)). all ++ b) (sym (map-append (map bound_row) (alternatives h c) rest))
    ∙ ap (λ (l : List Cond). all ++ rows_of (any_of h l)) (sym (member_here cs i c d l e)) ∙ inv
  where
    rest : List (List Bound)
    rest = any_of h (drop (i + 1) cs)

pub any_end : (h : Bool) (cs : List Cond) (i : ℕ) (all z : List (List Row)) → length cs ≤ i →
    all ++ rows_of (any_of h (drop i cs)) ≡ z → all ≡ z
any_end h cs i all z l inv =
    sym (append-nil all)
    ∙ ap (λ (r : List Cond). all ++ rows_of (any_of h r)) (sym (drop_of_length-le cs l)) ∙ inv
