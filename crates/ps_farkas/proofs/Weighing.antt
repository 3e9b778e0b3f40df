-- The weighted sum of a part: what is done, with what is left, is all.
use Rattle.std.proofs.Common.{◌≡◌, ℕ, ◌<◌, ◌+◌, ℤ, pos, ◌+ℤ◌, ◌*ℤ◌, List, [], ◌∷◌, length, get_or, drop, FitsSigned, refl, sym, ap, ◌∙◌, subst, subst₂, arith}
use Rattle.std.specs.Int.{w128}
use Rattle.std.specs.List.{AllByRecursion}
use Rattle.std.proofs.lemmas.Int.{ints}
use Rattle.std.proofs.lemmas.List.{drop_more}
use Rattle.ps_term.specs.declared.row.Row.{Row}
use Rattle.ps_term.specs.declared.term.Term.{Term}
use Rattle.ps_term.specs.Sums.{ScaledFits}
use Rattle.ps_term.proofs.Ring.{mul-zero}
use Rattle.ps_farkas.specs.Refutes.{weighted, SumsFit}

pub record Weighed (part : Term → ℤ) (rows : List Row) (ns : List ℕ) (so_far : ℤ) (rest : List Row) (rest_ns : List ℕ) : Type 0 where
  pub total : (so_far +ℤ weighted part rest rest_ns) ≡ weighted part rows ns
  pub fits : SumsFit part so_far rest rest_ns → SumsFit part (pos 0) rows ns
  pub fit : SumsFit part (pos 0) rows ns → SumsFit part so_far rest rest_ns

pub Weighed-turn : (part : Term → ℤ) (rows : List Row) (ns : List ℕ) (so_far : ℤ) (r : Row) (rest : List Row) (n : ℕ) (rest_ns : List ℕ) → Weighed part rows ns so_far (r ∷ rest) (n ∷ rest_ns) → ScaledFits so_far (pos n) (part r.term) → Weighed part rows ns (so_far +ℤ (pos n *ℤ part r.term)) rest rest_ns
Weighed-turn part rows ns so_far r rest n rest_ns w s =
    record { total = omega (arith, ints, w.total); fits = λ h. w.fits (s, h); fit = λ h. (w.fit h).1 }

-- the same at a place of the two lists
pub Weighed-step : (part : Term → ℤ) (rows : List Row) (ns : List ℕ) (so_far new : ℤ) (i : ℕ) (r : Row) → Weighed part rows ns so_far (drop i rows) (drop i ns) → i < length rows → length ns ≡ length rows → r ≡ get_or rows i r → ScaledFits so_far (pos (get_or ns i 0)) (part r.term) → new ≡ (so_far +ℤ (pos (get_or ns i 0) *ℤ part r.term)) → Weighed part rows ns new (drop (i + 1) rows) (drop (i + 1) ns)
Weighed-step part rows ns so_far new i r w h e is s n =
    let front : drop i rows ≡ r ∷ drop (i + 1) rows = drop_more rows i r h ∙ ap (λ (x : Row). x ∷ drop (i + 1) rows) (sym is) in
    let front_ns : drop i ns ≡ get_or ns i 0 ∷ drop (i + 1) ns = drop_more ns i 0 (omega arith) in
    let here : Weighed part rows ns so_far (r ∷ drop (i + 1) rows) (get_or ns i 0 ∷ drop (i + 1) ns) = subst₂ (λ (rs : List Row) (ms : List ℕ). Weighed part rows ns so_far rs ms) front front_ns w in
    subst (λ (z : ℤ). Weighed part rows ns z (drop (i + 1) rows) (drop (i + 1) ns)) (sym n) (Weighed-turn part rows ns so_far r (drop (i + 1) rows) (get_or ns i 0) (drop (i + 1) ns) here s)

-- a part that is 0 in each row
pub weighted-zero : (part : Term → ℤ) (rows : List Row) (ns : List ℕ) → AllByRecursion (λ r. part r.term ≡ pos 0) rows → weighted part rows ns ≡ pos 0
weighted-zero part [] ns h = refl
weighted-zero part (r ∷ rs) [] h = refl
weighted-zero part (r ∷ rs) (n ∷ ns) h =
    let z : (pos n *ℤ part r.term) ≡ pos 0 = ap (λ (k : ℤ). pos n *ℤ k) h.0 ∙ mul-zero (pos n) in
    omega (arith, ints, z, weighted-zero part rs ns h.1)

pub SumsFit-zero : (part : Term → ℤ) (rows : List Row) (ns : List ℕ) → AllByRecursion (λ r. part r.term ≡ pos 0) rows → SumsFit part (pos 0) rows ns
SumsFit-zero part [] ns h = tt
SumsFit-zero part (r ∷ rs) [] h = tt
SumsFit-zero part (r ∷ rs) (n ∷ ns) h =
    let z : (pos n *ℤ part r.term) ≡ pos 0 = ap (λ (k : ℤ). pos n *ℤ k) h.0 ∙ mul-zero (pos n) in
    let fits : FitsSigned w128 (pos 0) = record { sfits = omega arith } in
    let rest = SumsFit-zero part rs ns h.1 in
    ((subst (λ (k : ℤ). FitsSigned w128 k) (sym z) fits, subst (λ (k : ℤ). FitsSigned w128 (pos 0 +ℤ k)) (sym z) fits), subst (λ (k : ℤ). SumsFit part (pos 0 +ℤ k) rs ns) (sym z) rest)
