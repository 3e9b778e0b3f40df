-- Lists of terms whose variables ascend.
use Rattle.std.proofs.Common.{◌≡◌, ℕ, suc, zero, ◌<◌, Bool, true, false, ◌&&◌, List, [], ◌∷◌, length, get_or, if◌then◌else◌, refl, sym, ap, ◌∙◌, subst, arith}
use Rattle.std.specs.Prelude.{◌≢◌, AllPairs}
use Rattle.std.specs.List.{AllByRecursion}
use Rattle.std.specs.List.Sorted.{IsPartitionedBy}
use Rattle.std.proofs.lemmas.Bool.{false≢true, and_parts}
use Rattle.std.proofs.lemmas.List.Elements.{All-from_recursion}
use Rattle.std.proofs.lemmas.List.Kept.{AllPairs-cons}
use Rattle.ps_term.specs.declared.term.Term.{Term}
use Rattle.ps_term.specs.declared.var.Var.{Var}
use Rattle.ps_term.specs.Var.{var_lt, var_eq}
use Rattle.ps_term.proofs.Variables.{var_eq-true, var_eq_refl, var_lt-var_eq, var_lt_or_gt, var_lt_trans}
use Rattle.ps_command.specs.Assignments.{is_before_all, ascends}
use Rattle.ps_command.specs.Form.{with_term}

-- ---- what ascends
both : (a b : Bool) → a ≡ true → b ≡ true → (a && b) ≡ true
both true true e f = refl
both true false e f = f
both false b e f = e

before_trans : (x y : Var) (ps : List (Var × Term)) → var_lt x y ≡ true → is_before_all y ps ≡ true → is_before_all x ps ≡ true
before_trans x y [] l b = refl
before_trans x y (p ∷ ps) l b = var_lt_trans x y p.0 l b

before_set : (y x : Var) (t : Term) (ps : List (Var × Term)) → var_lt y x ≡ true → is_before_all y ps ≡ true → is_before_all y (with_term x t ps) ≡ true
before_set y x t [] l b = l
before_set y x t (p ∷ ps) l b = at (var_eq x p.0) (var_lt x p.0)
  where
    at : (c d : Bool) → is_before_all y (if c then (x, t) ∷ ps else if d then (x, t) ∷ p ∷ ps else p ∷ with_term x t ps) ≡ true
    at true d = l
    at false true = l
    at false false = b

pub ascends_set : (x : Var) (t : Term) (ps : List (Var × Term)) → ascends ps ≡ true → ascends (with_term x t ps) ≡ true
ascends_set x t [] a = refl
ascends_set x t (p ∷ ps) a = at (var_eq x p.0) refl (var_lt x p.0) refl (ascends_set x t ps parts.1)
  where
    parts : (is_before_all p.0 ps ≡ true) × (ascends ps ≡ true)
    parts = and_parts (is_before_all p.0 ps) (ascends ps) a

    at : (c : Bool) → var_eq x p.0 ≡ c → (d : Bool) → var_lt x p.0 ≡ d → ascends (with_term x t ps) ≡ true →
        ascends (if c then (x, t) ∷ ps else if d then (x, t) ∷ p ∷ ps else p ∷ with_term x t ps) ≡ true
    at true e d f h = both (is_before_all x ps) (ascends ps) (subst (λ (y : Var). is_before_all y ps ≡ true) (sym (var_eq-true x p.0 e)) parts.0) parts.1
    at false e true f h = both (var_lt x p.0) (ascends (p ∷ ps)) f a
    at false e false f h = both (is_before_all p.0 (with_term x t ps)) (ascends (with_term x t ps)) (before_set p.0 x t ps (var_lt_or_gt x p.0 e f) parts.0) h

differs : (x : Var) (ps : List (Var × Term)) → is_before_all x ps ≡ true → ascends ps ≡ true → AllByRecursion (λ (q : Var × Term). x ≢ q.0) ps
differs x [] b a = tt
differs x (p ∷ ps) b a =
    let parts : (is_before_all p.0 ps ≡ true) × (ascends ps ≡ true) = and_parts (is_before_all p.0 ps) (ascends ps) a in
    let apart : x ≢ p.0 = λ e. false≢true (sym (var_lt-var_eq x p.0 b) ∙ (ap (λ (y : Var). var_eq x y) (sym e) ∙ var_eq_refl x)) in
    (apart, differs x ps (before_trans x p.0 ps b parts.0) parts.1)

-- no variable stands twice
pub distinct : (ps : List (Var × Term)) → ascends ps ≡ true → AllPairs (λ (p q : Var × Term). p.0 ≢ q.0) ps
distinct [] a = λ i j d lt within. absurd (omega arith)
distinct (p ∷ ps) a =
    let parts : (is_before_all p.0 ps ≡ true) × (ascends ps ≡ true) = and_parts (is_before_all p.0 ps) (ascends ps) a in
    AllPairs-cons (λ (q r : Var × Term). q.0 ≢ r.0) p ps
    (All-from_recursion (λ (q : Var × Term). p.0 ≢ q.0) ps (differs p.0 ps parts.0 parts.1)) (distinct ps parts.1)

-- ---- what a search finds
rises : (x : Var) (ps : List (Var × Term)) (j : ℕ) (d : Var × Term) → is_before_all x ps ≡ true → ascends ps ≡ true → j < length ps → var_lt x (get_or ps j d).0 ≡ true
rises x [] j d b a h = absurd (omega arith)
rises x (p ∷ ps) zero d b a h = b
rises x (p ∷ ps) (suc j) d b a h =
    let parts : (is_before_all p.0 ps ≡ true) × (ascends ps ≡ true) = and_parts (is_before_all p.0 ps) (ascends ps) a in
    rises x ps j d (before_trans x p.0 ps b parts.0) parts.1 (omega arith)

pub parted : (x : Var) (ps : List (Var × Term)) → ascends ps ≡ true → IsPartitionedBy (λ p. var_lt p.0 x) ps
parted x [] a i j d le h up = absurd (omega arith)
parted x (p ∷ ps) a zero zero d le h up = up
parted x (p ∷ ps) a zero (suc j) d le h up =
    let parts : (is_before_all p.0 ps ≡ true) × (ascends ps ≡ true) = and_parts (is_before_all p.0 ps) (ascends ps) a in
    var_lt_trans p.0 (get_or ps j d).0 x (rises p.0 ps j d parts.0 parts.1 (omega arith)) up
parted x (p ∷ ps) a (suc i) zero d le h up = absurd (omega arith)
parted x (p ∷ ps) a (suc i) (suc j) d le h up = parted x ps (and_parts (is_before_all p.0 ps) (ascends ps) a).1 i j d (omega arith) (omega arith) up
