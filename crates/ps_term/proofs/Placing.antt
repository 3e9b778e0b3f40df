-- The place of a variable in a list of pairs whose variables ascend, and what is put there.
use Rattle.std.proofs.Common.{◌≡◌, ◌≤◌, ℕ, suc, zero, ◌<◌, Bool, true, false, List, [], ◌∷◌, length, get_or, drop, if◌then◌else◌, refl, sym, ap, ◌∙◌, subst, arith}
use Rattle.std.specs.Prelude.{slice_set, insert}
use Rattle.std.specs.List.Sorted.{IsPartitionPoint}
use Rattle.std.proofs.lemmas.Bool.{false≢true}
use Rattle.ps_term.specs.inner.Front.{is_first}
use Rattle.ps_term.specs.Placed.{put}
use Rattle.ps_term.specs.Var.{var_eq, var_lt}
use Rattle.ps_term.specs.declared.var.Var.{Var}
use Rattle.ps_term.proofs.Variables.{var_eq-true, var_eq_refl, var_eq_sym, var_gt-var_eq, var_lt-var_eq, var_lt_or_gt, var_lt_trans}

pub var_lt_not_gt : (x y : Var) → var_lt x y ≡ true → var_lt y x ≡ false
var_lt_not_gt x y l = at (var_lt y x) refl
  where
    at : (b : Bool) → var_lt y x ≡ b → var_lt y x ≡ false
    at false e = e
    at true e = absurd (false≢true (sym (var_lt-var_eq x x (var_lt_trans x y x l e)) ∙ var_eq_refl x))

-- those before the place are before the variable, and the others aren't
pub record IsPlace {A : Type 0} (x : Var) (ps : List (Var × A)) (i : ℕ) : Type 0 where
  pub within : i ≤ length ps
  pub before : (k : ℕ) (d : Var × A) → k < i → var_lt (get_or ps k d).0 x ≡ true
  pub beyond : (k : ℕ) (d : Var × A) → i ≤ k → k < length ps → var_lt (get_or ps k d).0 x ≡ false

module _ {A : Type 0} where
  pub is_place : (x : Var) (ps : List (Var × A)) (i : ℕ) → i ≤ length ps → IsPartitionPoint (λ p. var_lt p.0 x ≡ true) (λ p. var_lt p.0 x ≡ false) ps i → IsPlace x ps i
  is_place x ps i le w = record { within = le; before = λ k d h. w.0 k d (omega arith) h; beyond = λ k d l h. w.1 k d l h }

  pub next_place : (x : Var) (p : Var × A) (ps : List (Var × A)) (i : ℕ) → IsPlace x (p ∷ ps) (suc i) → IsPlace x ps i
  next_place x p ps i w = record {
    within = let h : suc i ≤ length (p ∷ ps) = w.within in omega (arith, h);
    before = λ k d h. w.before (suc k) d (omega arith);
    beyond = λ k d l h. w.beyond (suc k) d (omega arith) (omega arith);
  }

  pub front_before : (x : Var) (p : Var × A) (ps : List (Var × A)) (i : ℕ) → IsPlace x (p ∷ ps) (suc i) → var_lt p.0 x ≡ true
  front_before x p ps i w = w.before 0 p (omega arith)

  pub front_beyond : (x : Var) (p : Var × A) (ps : List (Var × A)) → IsPlace x (p ∷ ps) 0 → var_eq x p.0 ≡ false → var_lt x p.0 ≡ true
  front_beyond x p ps w e = var_lt_or_gt p.0 x (var_eq_sym p.0 x ∙ e) (w.beyond 0 p (omega arith) (omega arith))

  -- the pair is set, or put between
  pub set_at_place : (x : Var) (a : A) (ps : List (Var × A)) (i : ℕ) → IsPlace x ps i →
      put x a ps ≡ (if is_first x (drop i ps) then slice_set ps i (x, a) else insert ps i (x, a))
  set_at_place x a [] zero w = refl
  set_at_place x a [] (suc i) w = let h : suc i ≤ 0 = w.within in absurd (omega (arith, h))
  set_at_place x a (p ∷ ps) zero w = at (var_eq x p.0) refl
    where
      at : (b : Bool) → var_eq x p.0 ≡ b →
          (if b then (x, a) ∷ ps else if var_lt x p.0 then (x, a) ∷ p ∷ ps else p ∷ put x a ps) ≡ (if b then (x, a) ∷ ps else (x, a) ∷ p ∷ ps)
      at true e = refl
      at false e = ap (λ (c : Bool). if c then (x, a) ∷ p ∷ ps else p ∷ put x a ps) (front_beyond x p ps w e)
  set_at_place x a (p ∷ ps) (suc i) w =
      let lt : var_lt p.0 x ≡ true = front_before x p ps i w in
      ap (λ (b : Bool). if b then (x, a) ∷ ps else if var_lt x p.0 then (x, a) ∷ p ∷ ps else p ∷ put x a ps) (var_gt-var_eq p.0 x lt)
      ∙ (ap (λ (b : Bool). if b then (x, a) ∷ p ∷ ps else p ∷ put x a ps) (var_lt_not_gt p.0 x lt)
      ∙ (ap (λ (qs : List (Var × A)). p ∷ qs) (set_at_place x a ps i (next_place x p ps i w))
      ∙ at (is_first x (drop i ps))))
    where
      at : (b : Bool) → p ∷ (if b then slice_set ps i (x, a) else insert ps i (x, a)) ≡ (if b then slice_set (p ∷ ps) (suc i) (x, a) else insert (p ∷ ps) (suc i) (x, a))
      at true = refl
      at false = refl

  -- a place at which the variable stands is one of the list
  pub stands_within : (x : Var) (ps : List (Var × A)) (i : ℕ) → is_first x (drop i ps) ≡ true → i < length ps
  stands_within x [] zero e = absurd (false≢true e)
  stands_within x [] (suc i) e = absurd (false≢true e)
  stands_within x (p ∷ ps) zero e = omega arith
  stands_within x (p ∷ ps) (suc i) e = let h : i < length ps = stands_within x ps i e in omega (arith, h)

  -- and there it is that variable
  pub stands_here : (x : Var) (ps : List (Var × A)) (i : ℕ) (d : Var × A) → is_first x (drop i ps) ≡ true → (get_or ps i d).0 ≡ x
  stands_here x [] zero d e = absurd (false≢true e)
  stands_here x [] (suc i) d e = absurd (false≢true e)
  stands_here x (p ∷ ps) zero d e = sym (var_eq-true x p.0 e)
  stands_here x (p ∷ ps) (suc i) d e = stands_here x ps i d e

  -- ---- what is set at the place that a search found, over lists that are equal
  placed : (x : Var) (ps qs : List (Var × A)) (i : ℕ) → qs ≡ ps → i ≤ length qs → IsPartitionPoint (λ p. var_lt p.0 x ≡ true) (λ p. var_lt p.0 x ≡ false) qs i → IsPlace x ps i
  placed x ps qs i e le parts = subst (λ (l : List (Var × A)). IsPlace x l i) e (is_place x qs i le parts)

  pub set_found : (x : Var) (a : A) (ps qs rs : List (Var × A)) (i : ℕ) (b : Bool) → qs ≡ ps → rs ≡ ps → i ≤ length qs → IsPartitionPoint (λ p. var_lt p.0 x ≡ true) (λ p. var_lt p.0 x ≡ false) qs i →
      b ≡ is_first x (drop i rs) → b ≡ true → slice_set ps i (x, a) ≡ put x a ps
  set_found x a ps qs rs i b e f le parts h on =
      let first : is_first x (drop i ps) ≡ true = subst (λ (l : List (Var × A)). is_first x (drop i l) ≡ true) f (sym h ∙ on) in
      sym (set_at_place x a ps i (placed x ps qs i e le parts) ∙ ap (λ (c : Bool). if c then slice_set ps i (x, a) else insert ps i (x, a)) first)

  pub set_missing : (x : Var) (a : A) (ps qs rs : List (Var × A)) (i : ℕ) (b : Bool) → qs ≡ ps → rs ≡ ps → i ≤ length qs → IsPartitionPoint (λ p. var_lt p.0 x ≡ true) (λ p. var_lt p.0 x ≡ false) qs i →
      b ≡ is_first x (drop i rs) → b ≡ false → insert ps i (x, a) ≡ put x a ps
  set_missing x a ps qs rs i b e f le parts h off =
      let first : is_first x (drop i ps) ≡ false = subst (λ (l : List (Var × A)). is_first x (drop i l) ≡ false) f (sym h ∙ off) in
      sym (set_at_place x a ps i (placed x ps qs i e le parts) ∙ ap (λ (c : Bool). if c then slice_set ps i (x, a) else insert ps i (x, a)) first)
