-- Distinct threads leave the variables of a row apart.
use Rattle.std.proofs.Common.{◌≡◌, ◌≢◌, ◌⊎◌, ◌==◌, ◌&&◌, ◌<◌, ◌≤◌, ℕ, ℤ, Bool, true, false, List, [], ◌∷◌, length, get_or, All, AllPairs, zero, suc, sym, ap₂, ◌∙◌, subst, inl, inr, eqb-true, eq-eqb, nat_lt, arith}
use Rattle.std.specs.List.{AllByRecursion, list_all}
use Rattle.std.proofs.lemmas.Bool.{cases_lt, eqb-false, false≢true, and_parts}
use Rattle.std.proofs.lemmas.List.Elements.{recursion_from_All, All-from_recursion}
use Rattle.ps_term.proofs.Canonical.{IsBelowAll, IsBelowAll-canonical}
use Rattle.ps_term.proofs.Variables.{var_lt-var_eq}
use Rattle.ps_term.specs.Pairs.{IsCanonical}
use Rattle.ps_term.specs.Var.{var_eq}
use Rattle.ps_term.specs.declared.row.Row.{Row}
use Rattle.ps_term.specs.declared.var.Var.{Var}
use Rattle.ps_term.specs.declared.var.Var.TheVariants.{Global, Local, Havoc}
use Rattle.ps_command.specs.Named.{is_declared, is_declared_row}
use Rattle.ps_atom.specs.Atoms.{at_threads, IsOfSlots}
use Rattle.ps_atom.specs.Range.{IsDeclared}
use Rattle.ps_atom.proofs.Chains.{IsChain, pairs_from_chain}

-- the same slot, where the threads of two slots are one
slot_is : (ts : List ℕ) → AllPairs (λ (s t : ℕ). s ≢ t) ts → (i j : ℕ) → i < length ts → j < length ts → get_or ts i 0 ≡ get_or ts j 0 → i ≡ j
slot_is ts distinct i j k l e = at (cases_lt i j) (cases_lt j i)
  where
    at : (i < j) ⊎ (j ≤ i) → (j < i) ⊎ (i ≤ j) → i ≡ j
    at (inl less) h = absurd (distinct i j 0 less l e)
    at (inr h) (inl less) = absurd (distinct j i 0 less k (sym e))
    at (inr h) (inr g) = omega (arith, h, g)

other_variable : (ts : List ℕ) → AllPairs (λ (s t : ℕ). s ≢ t) ts → (x y : Var) → IsOfSlots (length ts) x → IsOfSlots (length ts) y → var_eq x y ≡ false → at_threads ts x ≢ at_threads ts y
other_variable ts distinct (Global m) (Global n) h k other e =
    let is : m ≡ n = cc in
    eqb-false m n other is
other_variable ts distinct (Global m) (Local t n) h k other e = let none : ⊥ = cc in none
other_variable ts distinct (Global m) (Havoc n) h k other e = let none : ⊥ = cc in none
other_variable ts distinct (Local s m) (Global n) h k other e = let none : ⊥ = cc in none
other_variable ts distinct (Local s m) (Local t n) h k other e =
    let threads : get_or ts s 0 ≡ get_or ts t 0 = cc in
    let numbers : m ≡ n = cc in
    let slots : s ≡ t = slot_is ts distinct s t h k threads in
    false≢true (sym other ∙ ap₂ (λ (a b : Bool). a && b) (eq-eqb s t slots) (eq-eqb m n numbers))
other_variable ts distinct (Local s m) (Havoc n) h k other e = let none : ⊥ = cc in none
other_variable ts distinct (Havoc m) (Global n) h k other e = let none : ⊥ = cc in none
other_variable ts distinct (Havoc m) (Local t n) h k other e = let none : ⊥ = cc in none
other_variable ts distinct (Havoc m) (Havoc n) h k other e =
    let is : m ≡ n = cc in
    eqb-false m n other is

-- the pairs of a row with slots for as many threads, which are distinct
pub pairs_apart : (ts : List ℕ) → AllPairs (λ (s t : ℕ). s ≢ t) ts → (ps : List (Var × ℤ)) → IsCanonical ps → AllByRecursion (λ (p : Var × ℤ). IsOfSlots (length ts) p.0) ps → IsChain (λ (p q : Var × ℤ). at_threads ts p.0 ≢ at_threads ts q.0) ps
pairs_apart ts distinct [] c a = tt
pairs_apart ts distinct (p ∷ ps) c a = (each ps (IsBelowAll-canonical p.0 ps c.1 c.2) a.1, pairs_apart ts distinct ps c.2 a.1)
  where
    each : (qs : List (Var × ℤ)) → IsBelowAll p.0 qs → AllByRecursion (λ (q : Var × ℤ). IsOfSlots (length ts) q.0) qs → AllByRecursion (λ (q : Var × ℤ). at_threads ts p.0 ≢ at_threads ts q.0) qs
    each [] b k = tt
    each (q ∷ qs) b k = (other_variable ts distinct p.0 q.0 a.0 k.0 (var_lt-var_eq p.0 q.0 b.0), each qs b.1 k.1)

pub one_thread : (t : ℕ) → AllPairs (λ (s t : ℕ). s ≢ t) (t ∷ [])
one_thread t = pairs_from_chain (λ (s t : ℕ). s ≢ t) (t ∷ []) (tt, tt)

-- a predicate's variables are globals and locals of its slots
declared_slots : (globals locals arity : ℕ) (ps : List (Var × ℤ)) → AllByRecursion (λ (p : Var × ℤ). IsDeclared globals locals arity p.0) ps → AllByRecursion (λ (p : Var × ℤ). IsOfSlots arity p.0) ps
declared_slots globals locals arity [] h = tt
declared_slots globals locals arity ((Global n, c) ∷ ps) h = (tt, declared_slots globals locals arity ps h.1)
declared_slots globals locals arity ((Local s n, c) ∷ ps) h = (h.0.0, declared_slots globals locals arity ps h.1)
declared_slots globals locals arity ((Havoc n, c) ∷ ps) h = absurd h.0

pub slots_declared : (globals locals arity threads : ℕ) (ps : List (Var × ℤ)) → All (λ (p : Var × ℤ). IsDeclared globals locals arity p.0) ps → threads ≡ arity → All (λ (p : Var × ℤ). IsOfSlots threads p.0) ps
slots_declared globals locals arity threads ps h e = subst (λ (n : ℕ). All (λ (p : Var × ℤ). IsOfSlots n p.0) ps) (sym e)
    (All-from_recursion (λ (p : Var × ℤ). IsOfSlots arity p.0) ps (declared_slots globals locals arity ps (recursion_from_All (λ (p : Var × ℤ). IsDeclared globals locals arity p.0) ps h)))

-- the variables of a row on the mover's locals are those of one slot
pub slots_of_one : (globals locals : ℕ) (ps : List (Var × ℤ)) → list_all (λ (p : Var × ℤ). is_declared globals locals p.0) ps ≡ true → AllByRecursion (λ (p : Var × ℤ). IsOfSlots 1 p.0) ps
slots_of_one globals locals [] h = tt
slots_of_one globals locals ((Global n, c) ∷ ps) h = (tt, slots_of_one globals locals ps (and_parts (nat_lt n globals) (list_all (λ (p : Var × ℤ). is_declared globals locals p.0) ps) h).1)
slots_of_one globals locals ((Local t n, c) ∷ ps) h =
    let q : ((t == 0 && nat_lt n locals) ≡ true) × (list_all (λ (p : Var × ℤ). is_declared globals locals p.0) ps ≡ true) = and_parts (t == 0 && nat_lt n locals) (list_all (λ (p : Var × ℤ). is_declared globals locals p.0) ps) h in
    let is : t ≡ 0 = eqb-true t 0 (and_parts (t == 0) (nat_lt n locals) q.0).0 in
    let below : t < 1 = omega (arith, is) in
    (below, slots_of_one globals locals ps q.1)
slots_of_one globals locals ((Havoc n, c) ∷ ps) h = (tt, slots_of_one globals locals ps (let q : (false ≡ true) × (list_all (λ (p : Var × ℤ). is_declared globals locals p.0) ps ≡ true) = and_parts false (list_all (λ (p : Var × ℤ). is_declared globals locals p.0) ps) h in q.1))

nth_declared : (globals locals : ℕ) (rows : List Row) (i : ℕ) (d : Row) → list_all (is_declared_row globals locals) rows ≡ true → i < length rows → is_declared_row globals locals (get_or rows i d) ≡ true
nth_declared globals locals [] i d h l = absurd (let none : ⊥ = omega (arith, l) in none)
nth_declared globals locals (r ∷ rows) zero d h l = (and_parts (is_declared_row globals locals r) (list_all (is_declared_row globals locals) rows) h).0
nth_declared globals locals (r ∷ rows) (suc i) d h l = nth_declared globals locals rows i d (and_parts (is_declared_row globals locals r) (list_all (is_declared_row globals locals) rows) h).1 (omega (arith, l))

pub nth_slots : (globals locals : ℕ) (rows : List Row) (i : ℕ) (d : Row) → list_all (is_declared_row globals locals) rows ≡ true → i < length rows → All (λ (p : Var × ℤ). IsOfSlots 1 p.0) (get_or rows i d).term.pairs
nth_slots globals locals rows i d h l = All-from_recursion (λ (p : Var × ℤ). IsOfSlots 1 p.0) (get_or rows i d).term.pairs (slots_of_one globals locals (get_or rows i d).term.pairs (nth_declared globals locals rows i d h l))
