-- What stands at a cut, and the table that takes its predicate.
use Rattle.std.proofs.Common.{◌≡◌, ◌≢◌, refl, sym, ap, ◌∙◌, subst, ℕ, zero, suc, ◌*◌, ◌/◌, ◌<◌, ℤ, pos, negsuc, ◌-ℤ◌, ◌*ℤ◌, ◌≤ℤ◌, List, [], ◌∷◌, ◌++◌, length, get_or, inl, inr, unsigned_abs, arith}
use Rattle.std.specs.Prelude.{Some, None}
use Rattle.std.proofs.Math.Nat.{mul-div_cancel}
use Rattle.std.proofs.lemmas.Int.{ints, unsigned_abs-mul}
use Rattle.std.proofs.lemmas.List.{append-nil}
use Rattle.ps_atom.specs.Places.{HasForm, IsArityOf, IsEndOf, IsPlaceOf}
use Rattle.ps_atom.specs.declared.atom.Atom.{Atom}
use Rattle.ps_atom.specs.declared.place.Place128.TheVariants.{Known, New}
use Rattle.ps_atom.specs.declared.place.PlaceEnd.{PlaceEnd}
use Rattle.ps_atom.specs.declared.place.PlaceEnd.TheVariants.{Arity, Full, Memory}
use Rattle.ps_atom.specs.declared.predicate.Predicate.{Predicate}
use Rattle.ps_atom.proofs.Own.{number_pushed}
use Rattle.ps_interp.specs.Cuts.{IsFalseSum, IsTrivialSum}
use Rattle.ps_interp.specs.Interpolants.{HasDivisor, StandsAt, interpolant_row}
use Rattle.ps_interp.specs.Made.{InterpolantFits}
use Rattle.ps_interp.specs.inner.Meetings.{EndsTaking, IsTaken}
use Rattle.ps_interp.specs.inner.Places.{IsTakenIn, end_at}
use Rattle.ps_term.specs.Pairs.{IsCanonical, coefficient}
use Rattle.ps_term.specs.Tightened.{IsTightened}
use Rattle.ps_term.specs.declared.row.Row.{Row}
use Rattle.ps_term.specs.declared.term.Term.{Term}
use Rattle.ps_term.specs.declared.var.Var.{Var}
use Rattle.ps_term.specs.declared.var.Var.TheVariants.{Global}
use Rattle.ps_term.proofs.Ring.{mul-zero}
use Rattle.ps_term.proofs.Uniqueness.{coefficient-first, same_coefficients}
use Rattle.ps_triple.proofs.Membership.{any_default}
use Rattle.ps_interp.proofs.Entire.{got_among}
use Rattle.ps_interp.proofs.Slots.{interpolant_coefficient}

-- ---- sums without variables
bare_back : (sum : Term) → IsCanonical sum.pairs → (interpolant_row sum).term.pairs ≡ [] → sum.pairs ≡ []
bare_back sum c e = same_coefficients sum.pairs [] c tt (λ x. at x (interpolant_coefficient x sum) (ap (coefficient x) e))
  where
    at : (x : Var) → coefficient x (interpolant_row sum).term.pairs ≡ (pos 0 -ℤ coefficient x sum.pairs) → coefficient x (interpolant_row sum).term.pairs ≡ pos 0 → coefficient x sum.pairs ≡ pos 0
    at x f g = omega (arith, ints, f, g)

positive : (k : ℤ) → ¬ (k ≤ℤ pos 0) → pos 1 ≤ℤ k
positive (pos zero) h = absurd (h (omega (arith, ints)))
positive (pos (suc n)) h = omega (arith, ints)
positive (negsuc n) h = absurd (h (omega (arith, ints)))

pub trivial_from : (sum : Term) (row : Row) → IsCanonical sum.pairs → ¬ IsFalseSum sum → row ≡ interpolant_row sum → row.term.pairs ≡ [] → IsTrivialSum sum
trivial_from sum row c some is e = (none, positive sum.constant (λ low. some (none, low)))
  where
    none : sum.pairs ≡ []
    none = bare_back sum c (ap (λ (r : Row). r.term.pairs) (sym is) ∙ e)

-- ---- the divisor
abs_zero : (k : ℤ) → unsigned_abs k ≡ 0 → k ≡ pos 0
abs_zero k h = grind (arith, ints)

pub divided_by : (row tight : Row) (t : IsTightened row tight) (p : Var × ℤ) → IsCanonical row.term.pairs → row.term.pairs ≢ [] → p ≡ get_or row.term.pairs 0 p →
    (unsigned_abs (coefficient p.0 tight.term.pairs) ≢ 0) × (unsigned_abs p.1 ≡ t.factor * unsigned_abs (coefficient p.0 tight.term.pairs))
divided_by row tight t p canonical some is = at row.term.pairs canonical some is (t.coefficients p.0)
  where
    at : (ps : List (Var × ℤ)) → IsCanonical ps → ps ≢ [] → p ≡ get_or ps 0 p → coefficient p.0 ps ≡ (pos t.factor *ℤ coefficient p.0 tight.term.pairs) →
        (unsigned_abs (coefficient p.0 tight.term.pairs) ≢ 0) × (unsigned_abs p.1 ≡ t.factor * unsigned_abs (coefficient p.0 tight.term.pairs))
    at [] c n e f = absurd (n refl)
    at (q ∷ qs) c n e f = (
      (λ z. some_first (own ∙ (ap (λ (k : ℤ). pos t.factor *ℤ k) (abs_zero (coefficient p.0 tight.term.pairs) z) ∙ mul-zero (pos t.factor)))),
      ap unsigned_abs own ∙ unsigned_abs-mul (pos t.factor) (coefficient p.0 tight.term.pairs),
    )
      where
        own : p.1 ≡ (pos t.factor *ℤ coefficient p.0 tight.term.pairs)
        own = sym (subst (λ (r : Var × ℤ). coefficient r.0 (q ∷ qs) ≡ r.1) (sym e) (coefficient-first q qs c)) ∙ f

        some_first : p.1 ≢ pos 0
        some_first = subst (λ (r : Var × ℤ). r.1 ≢ pos 0) (sym e) c.0

-- the same of the pairs as a slice of them
pub divided_first : (row tight : Row) (t : IsTightened row tight) (pairs : List (Var × ℤ)) → pairs ≡ row.term.pairs → IsCanonical pairs → row.term.pairs ≢ [] →
    (unsigned_abs (coefficient (get_or pairs 0 (Global 0, pos 0)).0 tight.term.pairs) ≢ 0)
    × (unsigned_abs (get_or pairs 0 (Global 0, pos 0)).1 ≡ t.factor * unsigned_abs (coefficient (get_or pairs 0 (Global 0, pos 0)).0 tight.term.pairs))
divided_first row tight t pairs same canonical some =
    divided_by row tight t (get_or pairs 0 (Global 0, pos 0)) (subst (λ (ps : List (Var × ℤ)). IsCanonical ps) same canonical) some
    (ap (λ (ps : List (Var × ℤ)). get_or ps 0 (Global 0, pos 0)) same
    ∙ any_default row.term.pairs 0 (Global 0, pos 0) (get_or pairs 0 (Global 0, pos 0)) (long row.term.pairs some))
  where
    long : (ps : List (Var × ℤ)) → ps ≢ [] → 0 < length ps
    long [] n = absurd (n refl)
    long (q ∷ qs) n = omega arith

pub quotient : (a f m : ℕ) → m ≢ 0 → a ≡ f * m → a / m ≡ f
quotient a f m n e = ap (λ (k : ℕ). k / m) e ∙ mul-div_cancel f (let some : 0 < m = omega (arith, n) in some)

-- ---- the table
pub placed_known : (old : List Predicate) (row : Row) (new : List Predicate) (number : ℕ) (threads : List ℕ) (atom : Atom) → new ≡ old → IsPlaceOf old row (Known number threads) →
    atom.predicate ≡ number → atom.threads ≡ threads → IsTakenIn old row new atom
placed_known old row new number threads atom same h n t = record {
  predicate = h.0;
  form = subst (HasForm row h.0) (sym t) h.1;
  more = [];
  first = inl (got_among old number h.0 h.2.stands, refl);
  all = same ∙ sym (append-nil old);
  place = subst (λ (ps : List Predicate). IsPlaceOf ps row (Known atom.predicate atom.threads)) (sym same)
      (subst (λ (m : ℕ). IsPlaceOf old row (Known m atom.threads)) (sym n) (subst (λ (ts : List ℕ). IsPlaceOf old row (Known number ts)) (sym t) h));
}

pub placed_new : (old : List Predicate) (row : Row) (new : List Predicate) (predicate : Predicate) (threads : List ℕ) (atom : Atom) → new ≡ old ++ predicate ∷ [] → IsPlaceOf old row (New predicate threads) →
    atom.predicate ≡ length old → atom.threads ≡ threads → IsTakenIn old row new atom
placed_new old row new predicate threads atom all h n t = record {
  predicate = predicate;
  form = subst (HasForm row predicate) (sym t) h.0;
  more = predicate ∷ [];
  first = inr (h.1, ([], refl, refl));
  all = all;
  place = subst (λ (ps : List Predicate). IsPlaceOf ps row (Known atom.predicate atom.threads)) (sym all)
      (subst (λ (m : ℕ). IsPlaceOf (old ++ predicate ∷ []) row (Known m atom.threads)) (sym n)
      (subst (λ (ts : List ℕ). IsPlaceOf (old ++ predicate ∷ []) row (Known (length old) ts)) (sym t) (predicate, h.0, number_pushed old predicate h.1)));
}

pub taken_none : (old : List Predicate) (sum : Term) (new : List Predicate) → IsTrivialSum sum → new ≡ old → IsTaken old sum new
taken_none old sum new t e = record { predicate = None; is = t; more = []; first = refl; all = e ∙ sym (append-nil old) }

pub taken_some : (old : List Predicate) (sum : Term) (row : Row) (new : List Predicate) (atom : Atom) → row ≡ interpolant_row sum → IsTakenIn old row new atom → IsTaken old sum new
taken_some old sum row new atom is h = record {
  predicate = Some h.predicate;
  is = (atom.threads, subst (λ (r : Row). HasForm r h.predicate atom.threads) is h.form);
  more = h.more;
  first = h.first;
  all = h.all;
}

pub stands_some : (old : List Predicate) (sum : Term) (row : Row) (new : List Predicate) (atom : Atom) (divisor : ℕ) → row ≡ interpolant_row sum → IsTakenIn old row new atom → HasDivisor row divisor →
    StandsAt new sum (Some (record { atom = atom; divisor = divisor }))
stands_some old sum row new atom divisor is h d = inr (
  subst (λ (r : Row). IsPlaceOf new r (Known atom.predicate atom.threads)) is h.place,
  subst (λ (r : Row). HasDivisor r divisor) is d,
)

pub ends_taking : (list : List Predicate) (sum : Term) (row : Row) (cut : ℕ) (end : PlaceEnd) → row ≡ interpolant_row sum → InterpolantFits sum → IsEndOf list row end → EndsTaking list sum cut (end_at cut end)
ends_taking list sum row cut (Arity count) is fits h = (refl, fits, subst (λ (r : Row). IsArityOf r count) is h)
ends_taking list sum row cut Full is fits h = (refl, fits, subst (λ (r : Row). IsEndOf list r Full) is h)
ends_taking list sum row cut (Memory end) is fits h = tt
