-- Which threads occur in interpolants.
use Rattle.std.proofs.Common.{◌≡◌, ◌≢◌, Bool, true, false, not, ◌==◌, refl, sym, ap, ◌∙◌, subst, ℕ, suc, ◌<◌, ◌≤◌, ℤ, pos, negsuc, ◌*ℤ◌, ◌+ℤ◌, ◌-ℤ◌, ◌≤ℤ◌, List, [], ◌∷◌, filter, inl, inr, ◌⊎◌, if◌then◌else◌, Contains, eq-eqb, arith}
use Rattle.std.specs.Prelude.{slice_index, Some}
use Rattle.std.specs.List.{AllByRecursion}
use Rattle.std.proofs.lemmas.Bool.{cases_eq, cases_lt}
use Rattle.std.proofs.lemmas.Int.{ints}
use Rattle.ps_list.proofs.Members.{nothing, cons_cases, here, there}
use Rattle.ps_list.proofs.Mapped.{kept, map_map, map_same}
use Rattle.ps_atom.specs.Atoms.{renamed}
use Rattle.ps_atom.specs.Canonical.{IsCanonicalOf}
use Rattle.ps_atom.specs.Numbers.{IsNumberOf}
use Rattle.ps_atom.specs.declared.atom.Atom.{Atom}
use Rattle.ps_atom.specs.declared.predicate.Predicate.{Predicate}
use Rattle.ps_atom.proofs.Facts.{one_form}
use Rattle.ps_atom.proofs.Placing.{product_zero}
use Rattle.ps_atom.proofs.Tightness.{all_members}
use Rattle.ps_interp.specs.Cuts.{IsTrivialSum}
use Rattle.ps_interp.specs.Entries.{numbered_threads, place_in, with_numbers}
use Rattle.ps_interp.specs.Interpolants.{Interpolant, StandsAt, interpolant_row}
use Rattle.ps_term.specs.Exact.{with_pairs}
use Rattle.ps_term.specs.Pairs.{IsCanonical, coefficient}
use Rattle.ps_term.specs.Term.{value}
use Rattle.ps_term.specs.Var.{var_eq}
use Rattle.ps_term.specs.declared.term.Term.{Term}
use Rattle.ps_term.specs.declared.var.Var.{Var}
use Rattle.ps_term.specs.declared.var.Var.TheVariants.{Global, Local, Havoc}
use Rattle.ps_term.proofs.Ring.{mul-zero}
use Rattle.ps_term.proofs.Uniqueness.{unit_at}
use Rattle.ps_term.proofs.Variables.{var_eq-true}
use Rattle.ps_interp.proofs.Numbered.{not_same}
use Rattle.ps_interp.proofs.Triples.{interpolant_worth}
use Rattle.ps_interp.proofs.Vars.{IsVarOf}
use Rattle.ps_interp.proofs.Worth.{coefficient_worth, constant_worth}

-- ---- coefficients of interpolants
pub interpolant_coefficient : (x : Var) (sum : Term) → coefficient x (interpolant_row sum).term.pairs ≡ (pos 0 -ℤ coefficient x sum.pairs)
interpolant_coefficient x sum = at (value (unit_at x) (interpolant_row sum).term) (value (unit_at x) sum) (value (λ (y : Var). pos 0) (interpolant_row sum).term) (value (λ (y : Var). pos 0) sum)
    (coefficient x (interpolant_row sum).term.pairs) (interpolant_row sum).term.constant (coefficient x sum.pairs) sum.constant
    (interpolant_worth (unit_at x) sum) (interpolant_worth (λ (y : Var). pos 0) sum)
    (coefficient_worth x (interpolant_row sum).term) (coefficient_worth x sum) (constant_worth (interpolant_row sum).term) (constant_worth sum)
  where
    at : (a b c d p q r s : ℤ) → a ≡ (pos 1 -ℤ b) → c ≡ (pos 1 -ℤ d) → a ≡ (p +ℤ q) → b ≡ (r +ℤ s) → c ≡ q → d ≡ s → p ≡ (pos 0 -ℤ r)
    at a b c d p q r s e f g h i j = omega (arith, ints, e, f, g, h, i, j)

zero_minus : (a b : ℤ) → a ≡ (pos 0 -ℤ b) → a ≡ pos 0 → b ≡ pos 0
zero_minus a b e f = omega (arith, ints, e, f)

minus_zero : (a b : ℤ) → a ≡ (pos 0 -ℤ b) → b ≡ pos 0 → a ≡ pos 0
minus_zero a b e f = omega (arith, ints, e, f)

-- a variable with a coefficient is among the pairs
pub stands_among : (P : Var → Type 0) (x : Var) (ps : List (Var × ℤ)) → AllByRecursion (λ (p : Var × ℤ). P p.0) ps → coefficient x ps ≢ pos 0 → P x
stands_among P x [] h n = absurd (n refl)
stands_among P x (p ∷ ps) h n = at (var_eq x p.0) refl (stands_among P x ps h.1)
  where
    plain : (z : ℤ) → (pos 0 +ℤ z) ≡ z
    plain z = omega (arith, ints)

    at : (t : Bool) → var_eq x p.0 ≡ t → (coefficient x ps ≢ pos 0 → P x) → P x
    at true e rest = subst P (sym (var_eq-true x p.0 e)) h.0
    at false e rest = rest (λ z. n (ap (λ (b : Bool). (if b then p.1 else pos 0) +ℤ coefficient x ps) e ∙ (plain (coefficient x ps) ∙ z)))

-- ---- the threads of a known interpolant
pub thread_occurs : (sum : Term) (p : Predicate) (ts : List ℕ) → IsCanonicalOf (interpolant_row sum) p ts → (t n : ℕ) → coefficient (Local t n) sum.pairs ≢ pos 0 → Contains ts t
thread_occurs sum p ts c t n h =
    (c.in_slots.in_order.occurring t).1 (
      n,
      (λ z. h (zero_minus (coefficient (Local t n) (interpolant_row sum).term.pairs) (coefficient (Local t n) sum.pairs) (interpolant_coefficient (Local t n) sum)
          (c.tightened.coefficients (Local t n) ∙ (ap (λ (m : ℤ). pos c.tightened.factor *ℤ m) z ∙ mul-zero (pos c.tightened.factor))))),
    )

pub occurring_thread : (sum : Term) (p : Predicate) (ts : List ℕ) → IsCanonicalOf (interpolant_row sum) p ts → (t : ℕ) → Contains ts t → (n : ℕ) × (coefficient (Local t n) sum.pairs ≢ pos 0)
occurring_thread sum p ts c t h = at ((c.in_slots.in_order.occurring t).0 h)
  where
    at : (n : ℕ) × (coefficient (Local t n) c.tight.term.pairs ≢ pos 0) → (n : ℕ) × (coefficient (Local t n) sum.pairs ≢ pos 0)
    at (n, k) = (
      n,
      λ z. k (product_zero c.tightened.factor (coefficient (Local t n) c.tight.term.pairs) c.tightened.positive
          (sym (c.tightened.coefficients (Local t n)) ∙ minus_zero (coefficient (Local t n) (interpolant_row sum).term.pairs) (coefficient (Local t n) sum.pairs) (interpolant_coefficient (Local t n) sum) z)),
    )

pub no_form : (sum : Term) → sum.pairs ≡ [] → (interpolant_row sum).term.pairs ≢ [] → ⊥
no_form sum e n = n (ap (λ (ps : List (Var × ℤ)). with_pairs [] (negsuc 0) ps) e)

-- the threads of what stands after a letter have locals in the sum, and no other thread has
pub among_after : (list : List Predicate) (globals locals : ℕ) (T : ℕ → Type 0) (sum : Term) (q : Interpolant) → IsCanonical sum.pairs → StandsAt list sum (Some q) →
    ((t : ℕ) → Contains q.atom.threads t → T t) → AllByRecursion (λ (p : Var × ℤ). IsVarOf globals locals (λ t. Unit {0}) p.0) sum.pairs →
    AllByRecursion (λ (p : Var × ℤ). IsVarOf globals locals T p.0) sum.pairs
among_after list globals locals T sum q c (inl bare) threads vars =
    subst (λ (ps : List (Var × ℤ)). AllByRecursion (λ (p : Var × ℤ). IsVarOf globals locals T p.0) ps) (sym bare.0.0) tt
among_after list globals locals T sum q c (inr known) threads vars = go sum.pairs (nonzero sum.pairs c) (all_members sum.pairs c) vars
  where
    nonzero : (qs : List (Var × ℤ)) → IsCanonical qs → AllByRecursion (λ (q : Var × ℤ). q.1 ≢ pos 0) qs
    nonzero [] d = tt
    nonzero (q ∷ qs) d = (d.0, nonzero qs d.2)

    go : (qs : List (Var × ℤ)) → AllByRecursion (λ (q : Var × ℤ). q.1 ≢ pos 0) qs → AllByRecursion (λ (q : Var × ℤ). coefficient q.0 sum.pairs ≡ q.1) qs →
        AllByRecursion (λ (p : Var × ℤ). IsVarOf globals locals (λ t. Unit {0}) p.0) qs → AllByRecursion (λ (p : Var × ℤ). IsVarOf globals locals T p.0) qs
    go [] z a v = tt
    go ((Global n, m) ∷ qs) z a v = (v.0, go qs z.1 a.1 v.1)
    go ((Local t n, m) ∷ qs) z a v =
        ((threads t (thread_occurs sum known.0.0 q.atom.threads known.0.1.2 t n (λ e. z.0 (sym a.0 ∙ e))), v.0.1), go qs z.1 a.1 v.1)
    go ((Havoc i, m) ∷ qs) z a v = (tt, go qs z.1 a.1 v.1)

pub among_before : (list : List Predicate) (globals locals : ℕ) (T : ℕ → Type 0) (sum : Term) (q : Interpolant) → StandsAt list sum (Some q) →
    AllByRecursion (λ (p : Var × ℤ). IsVarOf globals locals T p.0) sum.pairs → (t : ℕ) → Contains q.atom.threads t → T t
among_before list globals locals T sum q (inl bare) vars t h =
    absurd (nothing t (subst (λ (r : Interpolant). Contains r.atom.threads t) bare.1 h))
among_before list globals locals T sum q (inr known) vars t h = at (occurring_thread sum known.0.0 q.atom.threads known.0.1.2 t h)
  where
    at : (n : ℕ) × (coefficient (Local t n) sum.pairs ≢ pos 0) → T t
    at (n, k) = (stands_among (IsVarOf globals locals T) (Local t n) sum.pairs vars k).0

-- ---- what stands at a cut is one
one_number : (list : List Predicate) (p : Predicate) (m n : ℕ) → IsNumberOf list p m → IsNumberOf list p n → m ≡ n
one_number list p m n a b = at (cases_lt m n) (cases_lt n m)
  where
    at : (m < n) ⊎ (n ≤ m) → (n < m) ⊎ (m ≤ n) → m ≡ n
    at (inl h) k = absurd (b.least m h a.stands)
    at (inr h) (inl k) = absurd (a.least n k b.stands)
    at (inr h) (inr k) = omega (arith, h, k)

same_atom : (q r : Atom) → q.predicate ≡ r.predicate → q.threads ≡ r.threads → q ≡ r
same_atom q r p t = λ i. record { predicate = p i; threads = t i }

pub stands_once : (list : List Predicate) (sum : Term) (q r : Interpolant) → StandsAt list sum (Some q) → StandsAt list sum (Some r) → q.atom ≡ r.atom
stands_once list sum q r (inl a) (inl b) = ap (λ (x : Interpolant). x.atom) (a.1 ∙ sym b.1)
stands_once list sum q r (inl a) (inr b) = absurd (no_form sum a.0.0 b.0.1.0)
stands_once list sum q r (inr a) (inl b) = absurd (no_form sum b.0.0 a.0.1.0)
stands_once list sum q r (inr a) (inr b) =
    let one : (a.0.0 ≡ b.0.0) × (q.atom.threads ≡ r.atom.threads) = one_form (interpolant_row sum) a.0.0 b.0.0 q.atom.threads r.atom.threads a.0.1.2 b.0.1.2 in
    same_atom q.atom r.atom
    (one_number list b.0.0 q.atom.predicate r.atom.predicate (subst (λ (p : Predicate). IsNumberOf list p q.atom.predicate) one.0 a.0.2) b.0.2)
    one.1

pub nothing_stands : (list : List Predicate) (sum : Term) (q : Interpolant) → IsTrivialSum sum → StandsAt list sum (Some q) → ⊥
nothing_stands list sum q t (inl a) = let low : pos 1 ≤ℤ sum.constant = t.1 in let high : sum.constant ≤ℤ pos 0 = a.0.1 in let none : ⊥ = omega (arith, ints, low, high) in none
nothing_stands list sum q t (inr a) = no_form sum t.0 a.0.1.0

-- ---- threads by number, and back
pub back : (names : List ℕ) (t : ℕ) → Contains names t → slice_index names (place_in names t) ≡ t
back [] t h = absurd (nothing t h)
back (u ∷ us) t h = at (cases_eq u t) (λ later. back us t later)
  where
    at : (u ≡ t) ⊎ (u ≡ t → ⊥) → (Contains us t → slice_index us (place_in us t) ≡ t) → slice_index (u ∷ us) (place_in (u ∷ us) t) ≡ t
    at (inl is) rest = ap (λ (b : Bool). slice_index (u ∷ us) (if b then 0 else suc (place_in us t))) (eq-eqb u t is) ∙ is
    at (inr other) rest = ap (λ (b : Bool). slice_index (u ∷ us) (if b then 0 else suc (place_in us t))) (not_same u t other) ∙ rest (elim (cons_cases u us t h) [ inl is ↦ absurd (other is) | inr later ↦ later ])

pub slot_named : (k : ℕ) (slots : List ℕ) (t : ℕ) → (t ≡ k) ⊎ Contains slots t → Contains (numbered_threads k slots) t
slot_named k slots t (inl is) = subst (λ (n : ℕ). Contains (numbered_threads k slots) n) (sym is) (here k (filter (λ (t : ℕ). not (t == k)) slots))
slot_named k slots t (inr h) = at (cases_eq t k)
  where
    at : (t ≡ k) ⊎ (t ≡ k → ⊥) → Contains (numbered_threads k slots) t
    at (inl is) = subst (λ (n : ℕ). Contains (numbered_threads k slots) n) (sym is) (here k (filter (λ (t : ℕ). not (t == k)) slots))
    at (inr other) = there k (filter (λ (t : ℕ). not (t == k)) slots) t (kept (λ (t : ℕ). not (t == k)) slots t h (ap not (not_same t k other)))

pub renamed_back : (names : List ℕ) (q : Atom) → ((t : ℕ) → Contains q.threads t → Contains names t) → renamed (slice_index names) (with_numbers names q) ≡ q
renamed_back names q h =
    same_atom (renamed (slice_index names) (with_numbers names q)) q refl
    (map_map (place_in names) (slice_index names) q.threads ∙ map_same (λ (t : ℕ). slice_index names (place_in names t)) q.threads (λ t c. back names t (h t c)))
