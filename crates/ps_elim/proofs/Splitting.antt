-- The vectors of a set by the signs of their coefficients.
use Rattle.std.proofs.Common.{◌≡◌, ℕ, ◌+◌, ◌-◌, ◌*◌, ◌^◌, ◌<◌, ◌≤◌, Bool, true, false, if◌then◌else◌, List, [], ◌∷◌, ◌++◌, length, map, All, Bor, refl, sym, ap, ap₂, ◌∙◌, subst, subst₂, suc, arith, length-append}
use Rattle.std.specs.List.{AllByRecursion, filter}
use Rattle.std.proofs.lemmas.List.{length-map}
use Rattle.std.proofs.lemmas.List.Elements.{All-from_recursion, All-weaker, recursion_from_All}
use Rattle.std.proofs.Math.Nat.{mul-le-mul}
use Rattle.ps_elim.specs.Combining.{AllFit, all_combined, combined, negatives, positives, width, zeros}
use Rattle.ps_elim.specs.Vectors.{coefficient_under}
use Rattle.ps_elim.specs.inner.Weighing.{AllPairsFit, ArePairable, IsPairable, IsWeighted, coefficient_in, is_of, pointed_to, vectors_of}
use Rattle.ps_elim.specs.declared.sign.Sign.{Sign}
use Rattle.ps_elim.specs.declared.sign.Sign.TheVariants.{Zero, Positive, Negative}
use Rattle.ps_elim.specs.declared.weighted.Weighted.{Weighted}
use Rattle.ps_term.specs.declared.row.Row.{Row}
use Rattle.ps_term.specs.declared.var.Var.{Var}

abbrev pub of_sign : Sign → Var → List Weighted → List Weighted
of_sign sign x ws = filter (λ w. is_of sign (coefficient_in x w)) ws

abbrev pub vectors_of_sign : List Row → Sign → Var → List (List ℕ) → List (List ℕ)
vectors_of_sign rows sign x vs = filter (λ v. is_of sign (coefficient_under rows x v)) vs

first_same : (t u : Bool) (w : Weighted) (ws : List Weighted) (vs : List (List ℕ)) → t ≡ u → vectors_of ws ≡ vs → vectors_of (if t then w ∷ ws else ws) ≡ (if u then w.vector ∷ vs else vs)
first_same true true w ws vs e h = ap (λ (us : List (List ℕ)). w.vector ∷ us) h
first_same true false w ws vs e h = cc
first_same false true w ws vs e h = cc
first_same false false w ws vs e h = h

vectors_same : (rows : List Row) (sign : Sign) (x : Var) (ws : List Weighted) → AllByRecursion (IsWeighted rows) ws → vectors_of (of_sign sign x ws) ≡ vectors_of_sign rows sign x (vectors_of ws)
vectors_same rows sign x [] h = refl
vectors_same rows sign x (w ∷ ws) h =
    first_same (is_of sign (coefficient_in x w)) (is_of sign (coefficient_under rows x w.vector)) w (of_sign sign x ws) (vectors_of_sign rows sign x (vectors_of ws)) (ap (is_of sign) (h.0.sum.coefficients x)) (vectors_same rows sign x ws h.1)

pub split_vectors : (rows : List Row) (sign : Sign) (x : Var) (ws : List Weighted) (refs : List (Bor Weighted)) → All (IsWeighted rows) ws → pointed_to refs ≡ of_sign sign x ws → vectors_of (pointed_to refs) ≡ vectors_of_sign rows sign x (vectors_of ws)
split_vectors rows sign x ws refs h e = ap vectors_of e ∙ vectors_same rows sign x ws (recursion_from_All (IsWeighted rows) ws h)

first_passes : (rows : List Row) (sign : Sign) (x : Var) (w : Weighted) (ws : List Weighted) (t : Bool) → is_of sign (coefficient_in x w) ≡ t → IsWeighted rows w → AllByRecursion (IsPairable rows sign x) ws → AllByRecursion (IsPairable rows sign x) (if t then w ∷ ws else ws)
first_passes rows sign x w ws true e h rest = ((h, e), rest)
first_passes rows sign x w ws false e h rest = rest

passes : (rows : List Row) (sign : Sign) (x : Var) (ws : List Weighted) → AllByRecursion (IsWeighted rows) ws → AllByRecursion (IsPairable rows sign x) (of_sign sign x ws)
passes rows sign x [] h = tt
passes rows sign x (w ∷ ws) h =
    first_passes rows sign x w (of_sign sign x ws) (is_of sign (coefficient_in x w)) refl h.0 (passes rows sign x ws h.1)

pub split_pairable : (rows : List Row) (sign : Sign) (x : Var) (ws : List Weighted) (refs : List (Bor Weighted)) → All (IsWeighted rows) ws → pointed_to refs ≡ of_sign sign x ws → ArePairable rows sign x (pointed_to refs)
split_pairable rows sign x ws refs h e =
    subst (λ (us : List Weighted). All (IsPairable rows sign x) us) (sym e) (All-from_recursion (IsPairable rows sign x) (of_sign sign x ws) (passes rows sign x ws (recursion_from_All (IsWeighted rows) ws h)))

length_if : (t : Bool) (w : Weighted) (ws : List Weighted) (n : ℕ) → length ws ≤ n → length (if t then w ∷ ws else ws) ≤ n + 1
length_if true w ws n h = omega arith
length_if false w ws n h = omega arith

length_of_sign : (sign : Sign) (x : Var) (ws : List Weighted) → length (of_sign sign x ws) ≤ length ws
length_of_sign sign x [] = omega arith
length_of_sign sign x (w ∷ ws) = omega (arith, length_if (is_of sign (coefficient_in x w)) w (of_sign sign x ws) (length ws) (length_of_sign sign x ws))

pub split_length : (sign : Sign) (x : Var) (ws : List Weighted) (refs : List (Bor Weighted)) → pointed_to refs ≡ of_sign sign x ws → length refs ≤ length ws
split_length sign x ws refs e =
    omega (arith, sym (length-map refs (λ r. r.now)) ∙ ap (λ (us : List Weighted). length us) e, length_of_sign sign x ws)

-- ---- the width
pub record IsSplit (rows : List Row) (x : Var) (ws : List Weighted) (ns ps qs : List (Bor Weighted)) : Type 0 where
  pub zero_ones : vectors_of (pointed_to ns) ≡ zeros rows x (vectors_of ws)
  pub first_ones : vectors_of (pointed_to ps) ≡ positives rows x (vectors_of ws)
  pub second_ones : vectors_of (pointed_to qs) ≡ negatives rows x (vectors_of ws)

pub is_split : (rows : List Row) (x : Var) (ws : List Weighted) (ns ps qs : List (Bor Weighted)) → All (IsWeighted rows) ws → pointed_to ns ≡ of_sign Zero x ws → pointed_to ps ≡ of_sign Positive x ws → pointed_to qs ≡ of_sign Negative x ws → IsSplit rows x ws ns ps qs
is_split rows x ws ns ps qs h e f g = record {
  zero_ones = split_vectors rows Zero x ws ns h e;
  first_ones = split_vectors rows Positive x ws ps h f;
  second_ones = split_vectors rows Negative x ws qs h g;
}

vectors_length : (refs : List (Bor Weighted)) (vs : List (List ℕ)) → vectors_of (pointed_to refs) ≡ vs → length refs ≡ length vs
vectors_length refs vs e =
    sym (length-map refs (λ r. r.now)) ∙ (sym (length-map (pointed_to refs) (λ w. w.vector)) ∙ ap (λ (us : List (List ℕ)). length us) e)

pub split_width : (rows : List Row) (x : Var) (ws : List Weighted) (ns ps qs : List (Bor Weighted)) → IsSplit rows x ws ns ps qs → length ns + (length ps * length qs) ≡ width rows x (vectors_of ws)
split_width rows x ws ns ps qs s =
    ap₂ (λ (k m : ℕ). k + m) (vectors_length ns (zeros rows x (vectors_of ws)) s.zero_ones) (ap₂ (λ (k m : ℕ). k * m) (vectors_length ps (positives rows x (vectors_of ws)) s.first_ones) (vectors_length qs (negatives rows x (vectors_of ws)) s.second_ones))

pub product_small : (a b : ℕ) → a < 2 ^ 32 → b < 2 ^ 32 → a * b ≤ (2 ^ 32 - 1) * (2 ^ 32 - 1)
product_small a b h k =
    let first : a ≤ 2 ^ 32 - 1 = omega arith in
    let second : b ≤ 2 ^ 32 - 1 = omega arith in
    mul-le-mul first second

-- ---- the set that is made
length-all_combined : (rows : List Row) (x : Var) (ps qs : List (List ℕ)) → length (all_combined rows x ps qs) ≡ length ps * length qs
length-all_combined rows x [] qs = omega arith
length-all_combined rows x (p ∷ ps) qs =
    length-append (map (combined rows x p) qs) (all_combined rows x ps qs) ∙ (ap₂ (λ (k m : ℕ). k + m) (length-map qs (combined rows x p)) (length-all_combined rows x ps qs) ∙ more (length ps) (length qs))
  where
    more : (a b : ℕ) → b + (a * b) ≡ suc a * b
    more a b = omega arith

pub made_length : (rows : List Row) (x : Var) (vs us : List (List ℕ)) → us ≡ zeros rows x vs ++ all_combined rows x (positives rows x vs) (negatives rows x vs) → length us ≡ width rows x vs
made_length rows x vs us e =
    ap (λ (ts : List (List ℕ)). length ts) e ∙ (length-append (zeros rows x vs) (all_combined rows x (positives rows x vs) (negatives rows x vs)) ∙ ap (λ (k : ℕ). length (zeros rows x vs) + k) (length-all_combined rows x (positives rows x vs) (negatives rows x vs)))

pub made_is : (rows : List Row) (x : Var) (ws : List Weighted) (ns ps qs : List (Bor Weighted)) (copied made : List Weighted) → IsSplit rows x ws ns ps qs → copied ≡ pointed_to ns → vectors_of made ≡ vectors_of copied ++ all_combined rows x (vectors_of (pointed_to ps)) (vectors_of (pointed_to qs)) → vectors_of made ≡ zeros rows x (vectors_of ws) ++ all_combined rows x (positives rows x (vectors_of ws)) (negatives rows x (vectors_of ws))
made_is rows x ws ns ps qs copied made s e h =
    h ∙ (ap₂ (λ (us ts : List (List ℕ)). us ++ all_combined rows x ts (vectors_of (pointed_to qs))) (ap vectors_of e ∙ s.zero_ones) s.first_ones ∙ ap (λ (us : List (List ℕ)). zeros rows x (vectors_of ws) ++ all_combined rows x (positives rows x (vectors_of ws)) us) s.second_ones)

pub fits_all : (rows : List Row) (x : Var) (ws : List Weighted) (ns ps qs : List (Bor Weighted)) → IsSplit rows x ws ns ps qs → AllPairsFit rows x (vectors_of (pointed_to ps)) (vectors_of (pointed_to qs)) → AllFit rows x (vectors_of ws)
fits_all rows x ws ns ps qs s h = subst₂ (λ (us ts : List (List ℕ)). AllPairsFit rows x us ts) s.first_ones s.second_ones h

pub all_fits : (rows : List Row) (x : Var) (ws : List Weighted) (ns ps qs : List (Bor Weighted)) → IsSplit rows x ws ns ps qs → AllFit rows x (vectors_of ws) → AllPairsFit rows x (vectors_of (pointed_to ps)) (vectors_of (pointed_to qs))
all_fits rows x ws ns ps qs s h = subst₂ (λ (us ts : List (List ℕ)). AllPairsFit rows x us ts) (sym s.first_ones) (sym s.second_ones) h

pub pairable_weighted : (rows : List Row) (sign : Sign) (x : Var) (ws : List Weighted) → ArePairable rows sign x ws → All (IsWeighted rows) ws
pairable_weighted rows sign x ws h = All-weaker (IsPairable rows sign x) (IsWeighted rows) (λ w p. p.0) ws h
