-- Rows and their tightened rows: the same threads, and so the same places.
use Rattle.std.proofs.Common.{◌≡◌, ◌≢◌, ◌≤◌, ℕ, ℤ, pos, negsuc, Bool, true, false, ◌==◌, ◌*ℤ◌, List, [], ◌∷◌, length, refl, sym, ap, ◌∙◌, suc, zero, arith}
use Rattle.std.proofs.lemmas.Bool.{true≢false}
use Rattle.std.proofs.lemmas.Bool.Decides.{nat_tests}
use Rattle.std.proofs.lemmas.Int.{ints}
use Rattle.ps_term.specs.declared.row.Row.{Row}
use Rattle.ps_term.specs.declared.var.Var.{Var}
use Rattle.ps_term.specs.declared.var.Var.TheVariants.{Local}
use Rattle.ps_term.specs.Pairs.{IsCanonical, coefficient}
use Rattle.ps_term.specs.Tightened.{IsTightened}
use Rattle.ps_term.proofs.Ring.{mul-zero}
use Rattle.ps_atom.specs.Canonical.{IsInSlots}
use Rattle.ps_atom.specs.Places.{HasForm, IsEndOf, IsArityOf}
use Rattle.ps_atom.specs.inner.Ends.{IsFormEnd}
use Rattle.ps_atom.specs.Threads.{AreOccurring, Occurs}
use Rattle.ps_atom.specs.declared.predicate.Predicate.{Predicate}
use Rattle.ps_atom.specs.declared.place.PlaceEnd.{PlaceEnd}
use Rattle.ps_atom.specs.declared.place.PlaceEnd.TheVariants.{Arity, Full, Memory}

pub product_zero : (f : ℕ) (n : ℤ) → 1 ≤ f → let zero_z : ℤ = pos 0 in (pos f *ℤ n) ≡ zero_z → n ≡ zero_z
product_zero zero n h e = absurd (omega arith)
product_zero (suc f) (pos zero) h e = refl
product_zero (suc f) (pos (suc n)) h e = absurd (omega (arith, ints, e))
product_zero (suc f) (negsuc n) h e = absurd (omega (arith, ints, e))

pub occurs_tight : (row tight : Row) (t : ℕ) → IsTightened row tight → (Occurs row.term.pairs t → Occurs tight.term.pairs t) × (Occurs tight.term.pairs t → Occurs row.term.pairs t)
occurs_tight row tight t is =
    ((λ o. (o.0, λ z. o.1 (is.coefficients (Local t o.0) ∙ (ap (λ (n : ℤ). pos is.factor *ℤ n) z ∙ mul-zero (pos is.factor))))), (λ o. (o.0, λ z. o.1 (product_zero is.factor (coefficient (Local t o.0) tight.term.pairs) is.positive (sym (is.coefficients (Local t o.0)) ∙ z)))))

occurring_row : (row tight : Row) (ts : List ℕ) → IsTightened row tight → AreOccurring tight.term.pairs ts → AreOccurring row.term.pairs ts
occurring_row row tight ts is a t =
    ((λ m. (occurs_tight row tight t is).1 ((a t).0 m)), (λ o. (a t).1 ((occurs_tight row tight t is).0 o)))

arity_row : (row tight : Row) (count : ℕ) → IsTightened row tight → IsArityOf tight count → IsArityOf row count
arity_row row tight count is a =
    (a.0, a.1, (a.2.0, a.2.1, occurring_row row tight a.2.0 is a.2.2, a.2.3), a.3)

pub form_end : (list : List Predicate) (row tight : Row) (end : PlaceEnd) → IsTightened row tight → IsFormEnd tight end → IsEndOf list row end
form_end list row tight (Arity count) is e = arity_row row tight count is e
form_end list row tight Full is e = absurd e
form_end list row tight (Memory m) is e = tt

pub has_form : (row tight : Row) (predicate : Predicate) (threads : List ℕ) → row.term.pairs ≢ [] → IsTightened row tight → IsCanonical tight.term.pairs → IsInSlots tight predicate threads × (length threads ≤ 4) → HasForm row predicate threads
has_form row tight predicate threads some is c f =
    (some, f.1, record { tight = tight; tightened = is; canonical = c; in_slots = f.0 })

empty : (ps : List (Var × ℤ)) → length ps ≡ 0 → ps ≡ []
empty [] e = refl
empty (p ∷ ps) e = absurd (omega (arith, e))

pub not_empty_by : (ps qs : List (Var × ℤ)) (b : Bool) → ps ≡ qs → b ≡ (length ps == 0) → b ≡ false → qs ≢ []
not_empty_by ps qs b e is f z =
    let zero_long : length ps ≡ 0 = ap (λ (xs : List (Var × ℤ)). length xs) (e ∙ z) in
    let yes : (length ps == 0) ≡ true = grind (arith, nat_tests) in
    true≢false (sym yes ∙ (sym is ∙ f))

pub empty_by : (ps qs : List (Var × ℤ)) (b : Bool) → ps ≡ qs → b ≡ (length ps == 0) → b ≡ true → qs ≡ []
empty_by ps qs b e is f =
    let none : length ps ≡ 0 = (let t : (length ps == 0) ≡ true = sym is ∙ f in grind (arith, nat_tests)) in
    sym e ∙ empty ps none
