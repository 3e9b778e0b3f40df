-- The least vector with a positive constant, as a loop finds it.
use Rattle.std.proofs.Common.{◌≡◌, ℕ, ◌<◌, ℤ, pos, ◌≤ℤ◌, Bool, true, false, if◌then◌else◌, IsTrue, List, [], ◌∷◌, ◌++◌, length, get_or, All, Contains, Option, Some, None, refl, sym, ap, ◌∙◌, subst, arith}
use Rattle.std.proofs.lemmas.Bool.{both_ways}
use Rattle.std.proofs.lemmas.Int.{ints}
use Rattle.std.proofs.lemmas.List.{get_or-map, length-map}
use Rattle.std.proofs.lemmas.List.Elements.{All-contains, All-map, All-nil, All-push, All-weaker, Contains-append_left, Contains-push}
use Rattle.ps_elim.specs.inner.Choosing.{IsLeastAmong, IsPositive, lesser_vector}
use Rattle.ps_elim.specs.Elimination.{HasNoRefutation, IsLeastRefutation, last_set}
use Rattle.ps_elim.specs.Supports.{is_less}
use Rattle.ps_elim.specs.Vectors.{constant_under}
use Rattle.ps_elim.specs.inner.Weighing.{IsWeighted, vectors_of}
use Rattle.ps_elim.specs.declared.weighted.Weighted.{Weighted}
use Rattle.ps_elim.proofs.Order.{is_less-irreflexive, is_less-trans}
use Rattle.ps_term.specs.declared.row.Row.{Row}

-- what is known of the best one of some vectors
abbrev pub IsBest : List Weighted → Option Weighted → Type 0
IsBest ws None = All (λ w. w.row.term.constant ≤ℤ pos 0) ws
IsBest ws (Some best) = IsLeastAmong ws best

pub IsBest-start : IsBest [] None
IsBest-start = All-nil (λ w. w.row.term.constant ≤ℤ pos 0)

pub IsBest-skip : (ws : List Weighted) (best : Option Weighted) (w : Weighted) → IsBest ws best → w.row.term.constant ≤ℤ pos 0 → IsBest (ws ++ w ∷ []) best
IsBest-skip ws None w h k = All-push (λ u. u.row.term.constant ≤ℤ pos 0) ws w h k
IsBest-skip ws (Some best) w h k = record {
  is_in = Contains-append_left ws (w ∷ []) best h.is_in;
  positive = h.positive;
  least = All-push (λ u. IsPositive u → ¬ IsTrue (is_less u.vector best.vector)) ws w h.least (λ p. absurd (omega (arith, ints, p, k)));
}

IsBest-first : (ws : List Weighted) (w : Weighted) → All (λ u. u.row.term.constant ≤ℤ pos 0) ws → IsPositive w → IsLeastAmong (ws ++ w ∷ []) w
IsBest-first ws w h p = record {
  is_in = Contains-push ws w;
  positive = p;
  least = All-push (λ u. IsPositive u → ¬ IsTrue (is_less u.vector w.vector)) ws w (All-weaker (λ u. u.row.term.constant ≤ℤ pos 0) (λ u. IsPositive u → ¬ IsTrue (is_less u.vector w.vector)) (λ u k q. absurd (omega (arith, ints, k, q))) ws h) (λ q t. both_ways (is_less w.vector w.vector) (is_less-irreflexive w.vector) t);
}

IsBest-compared : (ws : List Weighted) (best w : Weighted) → IsLeastAmong ws best → IsPositive w → (t : Bool) → is_less w.vector best.vector ≡ t → IsLeastAmong (ws ++ w ∷ []) (if t then w else best)
IsBest-compared ws best w h p true e = record {
  is_in = Contains-push ws w;
  positive = p;
  least = All-push (λ u. IsPositive u → ¬ IsTrue (is_less u.vector w.vector)) ws w (All-weaker (λ u. IsPositive u → ¬ IsTrue (is_less u.vector best.vector)) (λ u. IsPositive u → ¬ IsTrue (is_less u.vector w.vector)) (λ u k q t. k q (is_less-trans u.vector w.vector best.vector t e)) ws h.least) (λ q t. both_ways (is_less w.vector w.vector) (is_less-irreflexive w.vector) t);
}
IsBest-compared ws best w h p false e = record {
  is_in = Contains-append_left ws (w ∷ []) best h.is_in;
  positive = h.positive;
  least = All-push (λ u. IsPositive u → ¬ IsTrue (is_less u.vector best.vector)) ws w h.least (λ q t. both_ways (is_less w.vector best.vector) e t);
}

pub IsBest-more : (ws : List Weighted) (best : Option Weighted) (w : Weighted) → IsBest ws best → IsPositive w → IsBest (ws ++ w ∷ []) (Some (lesser_vector best w))
IsBest-more ws None w h p = IsBest-first ws w h p
IsBest-more ws (Some best) w h p = IsBest-compared ws best w h p (is_less w.vector best.vector) refl

-- ---- of the vectors alone
positive_under : (rows : List Row) (w : Weighted) → IsWeighted rows w → w.row.term.constant ≡ constant_under rows w.vector
positive_under rows w h = h.sum.constant

pub least_refutation_is : (rows : List Row) (ws : List Weighted) (best : Weighted) → All (IsWeighted rows) ws → vectors_of ws ≡ last_set rows → IsLeastAmong ws best → IsLeastRefutation rows best.vector
least_refutation_is rows ws best all e h = record {
  is_last = subst (λ (vs : List (List ℕ)). Contains vs best.vector) e (h.is_in.0, omega (arith, length-map ws (λ w. w.vector), h.is_in.1), get_or-map (λ w. w.vector) ws h.is_in.0 best best.vector h.is_in.1 ∙ ap (λ (w : Weighted). w.vector) h.is_in.2);
  positive = subst (λ (n : ℤ). pos 1 ≤ℤ n) (positive_under rows best (All-contains (IsWeighted rows) ws best all h.is_in)) h.positive;
  least = λ u c p. at u (subst (λ (vs : List (List ℕ)). Contains vs u) (sym e) c) p;
}
  where
    at : (u : List ℕ) → Contains (vectors_of ws) u → pos 1 ≤ℤ constant_under rows u → ¬ IsTrue (is_less u best.vector)
    at u c p t =
        let below : c.0 < length ws = omega (arith, c.1, length-map ws (λ w. w.vector)) in
        let w : Weighted = get_or ws c.0 best in
        let is : w.vector ≡ u = sym (get_or-map (λ w. w.vector) ws c.0 best u below) ∙ c.2 in
        let positive : IsPositive w = subst (λ (n : ℤ). pos 1 ≤ℤ n) (ap (λ (v : List ℕ). constant_under rows v) (sym is) ∙ sym (positive_under rows w (all c.0 best below))) p in
        h.least c.0 best below positive (subst (λ (v : List ℕ). is_less v best.vector ≡ true) (sym is) t)

pub no_refutation_is : (rows : List Row) (ws : List Weighted) → All (IsWeighted rows) ws → vectors_of ws ≡ last_set rows → All (λ w. w.row.term.constant ≤ℤ pos 0) ws → HasNoRefutation rows
no_refutation_is rows ws all e h =
    subst (λ (vs : List (List ℕ)). All (λ v. constant_under rows v ≤ℤ pos 0) vs) e (All-map (λ v. constant_under rows v ≤ℤ pos 0) (λ w. w.vector) ws (λ k d l. subst (λ (n : ℤ). n ≤ℤ pos 0) (positive_under rows (get_or ws k d) (all k d l)) (h k d l)))
