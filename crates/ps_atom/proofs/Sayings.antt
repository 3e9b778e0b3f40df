-- A row and its tightened row are worth alike, so a canonical predicate says what its row says.
use Rattle.std.proofs.Common.{◌≡◌, ◌≤◌, ℕ, ℤ, pos, ◌+ℤ◌, ◌*ℤ◌, ◌≤ℤ◌, List, [], ◌∷◌, Some, refl, sym, ap, ◌∙◌, subst, arith}
use Rattle.std.proofs.lemmas.Int.{ints}
use Rattle.ps_term.specs.declared.row.Row.{Row}
use Rattle.ps_term.specs.declared.var.Var.{Var}
use Rattle.ps_term.specs.Factors.{AreDivided}
use Rattle.ps_term.specs.Pairs.{IsBelow, IsCanonical, pairs_value, coefficient}
use Rattle.ps_term.specs.Row.{Holds}
use Rattle.ps_term.specs.Tightened.{IsTightened}
use Rattle.ps_term.proofs.Divisions.{divided_coefficient, divided_value, same_solutions}
use Rattle.ps_term.proofs.Uniqueness.{same_coefficients}
use Rattle.ps_atom.specs.Atoms.{HoldsAt}
use Rattle.ps_atom.specs.Canonical.{IsCanonicalOf}
use Rattle.ps_atom.specs.Places.{IsPlaceOf}
use Rattle.ps_atom.specs.Says.{SaysAs}
use Rattle.ps_atom.specs.declared.place.Place128.{Place128}
use Rattle.ps_atom.specs.declared.place.Place128.TheVariants.{Trivial, False, Known, New}
use Rattle.ps_atom.specs.declared.predicate.Predicate.{Predicate}
use Rattle.ps_atom.proofs.Facts.{in_slots_says}
use Rattle.ps_atom.proofs.Placing.{product_zero}

-- the pairs with each coefficient multiplied
abbrev times : ℕ → List (Var × ℤ) → List (Var × ℤ)
times f [] = []
times f (p ∷ ps) = (p.0, pos f *ℤ p.1) ∷ times f ps

times_divided : (f : ℕ) (ps : List (Var × ℤ)) → AreDivided f (times f ps) ps
times_divided f [] = tt
times_divided f (p ∷ ps) = ((refl, refl), times_divided f ps)

times_below : (f : ℕ) (x : Var) (ps : List (Var × ℤ)) → IsBelow x ps → IsBelow x (times f ps)
times_below f x [] b = tt
times_below f x (p ∷ ps) b = b

times_canonical : (f : ℕ) (ps : List (Var × ℤ)) → 1 ≤ f → IsCanonical ps → IsCanonical (times f ps)
times_canonical f [] h c = tt
times_canonical f (p ∷ ps) h c = ((λ e. c.0 (product_zero f p.1 h e)), times_below f p.0 ps c.1, times_canonical f ps h c.2)

multiple_worth : (f : ℕ) (values : Var → ℤ) (old new : List (Var × ℤ)) → 1 ≤ f → IsCanonical old → IsCanonical new → ((x : Var) → coefficient x old ≡ (pos f *ℤ coefficient x new)) → pairs_value values old ≡ (pos f *ℤ pairs_value values new)
multiple_worth f values old new h c d e =
    let is : old ≡ times f new = same_coefficients old (times f new) c (times_canonical f new h d) (λ x. e x ∙ sym (divided_coefficient f x (times f new) new (times_divided f new))) in
    ap (λ (ps : List (Var × ℤ)). pairs_value values ps) is ∙ divided_value f values (times f new) new (times_divided f new)

pub tight_holds : (values : Var → ℤ) (old new : Row) → IsCanonical old.term.pairs → IsCanonical new.term.pairs → IsTightened old new → (Holds values new → Holds values old) × (Holds values old → Holds values new)
tight_holds values old new c d t =
    same_solutions t.factor (pairs_value values old.term.pairs) (pairs_value values new.term.pairs) old.term.constant new.term.constant (multiple_worth t.factor values old.term.pairs new.term.pairs t.positive c d t.coefficients) t.constant

pub form_says : (values : Var → ℤ) (row : Row) (p : Predicate) (ts : List ℕ) → IsCanonical row.term.pairs → IsCanonicalOf row p ts → (HoldsAt values ts p.row → Holds values row) × (Holds values row → HoldsAt values ts p.row)
form_says values row p ts c a =
    let inner = in_slots_says values a.tight p ts a.canonical a.in_slots in
    let outer = tight_holds values row a.tight c a.canonical a.tightened in
    ((λ h. outer.0 (inner.0 h)), (λ h. inner.1 (outer.1 h)))

bare_value : (c : ℤ) → (pos 0 +ℤ c) ≡ c
bare_value c = omega (arith, ints)

-- a row without variables is worth its constant
bare_row : (values : Var → ℤ) (row : Row) → row.term.pairs ≡ [] → (pairs_value values row.term.pairs +ℤ row.term.constant) ≡ row.term.constant
bare_row values row e = ap (λ (ps : List (Var × ℤ)). pairs_value values ps +ℤ row.term.constant) e ∙ bare_value row.term.constant

same_some : (p q : Predicate) → Some p ≡ Some q → p ≡ q
same_some p q e = cc

-- where the row is one without variables or has a canonical predicate, its place says the same
pub place_says : (list : List Predicate) (values : Var → ℤ) (row : Row) (place : Place128) → IsCanonical row.term.pairs → IsPlaceOf list row place → SaysAs list values row place
place_says list values row Trivial c h = subst (λ (n : ℤ). n ≤ℤ pos 0) (sym (bare_row values row h.0)) h.1
place_says list values row False c h = λ holds. (let le : row.term.constant ≤ℤ pos 0 = subst (λ (n : ℤ). n ≤ℤ pos 0) (bare_row values row h.0) holds in omega (arith, ints, le, h.1))
place_says list values row (Known number threads) c h = λ p at. (let is : h.0 ≡ p = same_some h.0 p (sym h.2.stands ∙ at) in form_says values row p threads c (subst (λ (q : Predicate). IsCanonicalOf row q threads) is h.1.2))
place_says list values row (New predicate threads) c h = form_says values row predicate threads c h.0.2
