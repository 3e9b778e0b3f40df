-- The order of variables is a strict linear order, and the test of equality decides equality.
use Rattle.std.proofs.Common.{◌≡◌, Bool, true, false, refl, sym, ap, ◌∙◌, arith}
use Rattle.std.proofs.lemmas.Bool.{false≢true}
use Rattle.std.proofs.lemmas.Bool.Decides.{nat_tests}
use Rattle.ps_term.specs.declared.var.Var.{Var}
use Rattle.ps_term.specs.declared.var.Var.TheVariants.{Global, Local, Havoc}
use Rattle.ps_term.specs.Var.{var_lt, var_eq}

pub var_eq-true : (a b : Var) → var_eq a b ≡ true → a ≡ b
var_eq-true (Global m) (Global n) e = grind (arith, nat_tests)
var_eq-true (Local s m) (Local t n) e = grind (arith, nat_tests)
var_eq-true (Havoc m) (Havoc n) e = grind (arith, nat_tests)
var_eq-true (Global _) (Local _ _) e = cc
var_eq-true (Global _) (Havoc _) e = cc
var_eq-true (Local _ _) (Global _) e = cc
var_eq-true (Local _ _) (Havoc _) e = cc
var_eq-true (Havoc _) (Global _) e = cc
var_eq-true (Havoc _) (Local _ _) e = cc

pub var_eq_refl : (a : Var) → var_eq a a ≡ true
var_eq_refl (Global m) = grind (arith, nat_tests)
var_eq_refl (Local s m) = grind (arith, nat_tests)
var_eq_refl (Havoc m) = grind (arith, nat_tests)

pub var_eq_sym : (a b : Var) → var_eq a b ≡ var_eq b a
var_eq_sym a b = by_test (var_eq a b) refl (var_eq b a) refl
  where
    by_test : (t : Bool) → var_eq a b ≡ t → (u : Bool) → var_eq b a ≡ u → var_eq a b ≡ var_eq b a
    by_test true e true f = e ∙ sym f
    by_test false e false f = e ∙ sym f
    by_test true e false f = absurd (false≢true (sym f ∙ (ap (λ (c : Var). var_eq b c) (var_eq-true a b e) ∙ var_eq_refl b)))
    by_test false e true f = absurd (false≢true (sym e ∙ (ap (λ (c : Var). var_eq a c) (var_eq-true b a f) ∙ var_eq_refl a)))

pub var_lt-var_eq : (a b : Var) → var_lt a b ≡ true → var_eq a b ≡ false
var_lt-var_eq (Global m) (Global n) e = grind (arith, nat_tests)
var_lt-var_eq (Local s m) (Local t n) e = grind (arith, nat_tests)
var_lt-var_eq (Havoc m) (Havoc n) e = grind (arith, nat_tests)
var_lt-var_eq (Global _) (Local _ _) e = refl
var_lt-var_eq (Global _) (Havoc _) e = refl
var_lt-var_eq (Local _ _) (Global _) e = refl
var_lt-var_eq (Local _ _) (Havoc _) e = refl
var_lt-var_eq (Havoc _) (Global _) e = refl
var_lt-var_eq (Havoc _) (Local _ _) e = refl

pub var_gt-var_eq : (a b : Var) → var_lt a b ≡ true → var_eq b a ≡ false
var_gt-var_eq (Global m) (Global n) e = grind (arith, nat_tests)
var_gt-var_eq (Local s m) (Local t n) e = grind (arith, nat_tests)
var_gt-var_eq (Havoc m) (Havoc n) e = grind (arith, nat_tests)
var_gt-var_eq (Global _) (Local _ _) e = refl
var_gt-var_eq (Global _) (Havoc _) e = refl
var_gt-var_eq (Local _ _) (Global _) e = refl
var_gt-var_eq (Local _ _) (Havoc _) e = refl
var_gt-var_eq (Havoc _) (Global _) e = refl
var_gt-var_eq (Havoc _) (Local _ _) e = refl

pub var_lt_or_gt : (a b : Var) → var_eq a b ≡ false → var_lt a b ≡ false → var_lt b a ≡ true
var_lt_or_gt (Global m) (Global n) e f = grind (arith, nat_tests)
var_lt_or_gt (Local s m) (Local t n) e f = grind (arith, nat_tests)
var_lt_or_gt (Havoc m) (Havoc n) e f = grind (arith, nat_tests)
var_lt_or_gt (Global _) (Local _ _) e f = cc
var_lt_or_gt (Global _) (Havoc _) e f = cc
var_lt_or_gt (Local _ _) (Global _) e f = refl
var_lt_or_gt (Local _ _) (Havoc _) e f = cc
var_lt_or_gt (Havoc _) (Global _) e f = refl
var_lt_or_gt (Havoc _) (Local _ _) e f = refl

pub var_lt_trans : (a b c : Var) → var_lt a b ≡ true → var_lt b c ≡ true → var_lt a c ≡ true
var_lt_trans (Global m) (Global n) (Global k) e f = grind (arith, nat_tests)
var_lt_trans (Local s m) (Local t n) (Local u k) e f = grind (arith, nat_tests)
var_lt_trans (Havoc m) (Havoc n) (Havoc k) e f = grind (arith, nat_tests)
var_lt_trans (Global _) (Global _) (Local _ _) e f = refl
var_lt_trans (Global _) (Global _) (Havoc _) e f = refl
var_lt_trans (Global _) (Local _ _) (Global _) e f = cc
var_lt_trans (Global _) (Local _ _) (Local _ _) e f = refl
var_lt_trans (Global _) (Local _ _) (Havoc _) e f = refl
var_lt_trans (Global _) (Havoc _) (Global _) e f = cc
var_lt_trans (Global _) (Havoc _) (Local _ _) e f = refl
var_lt_trans (Global _) (Havoc _) (Havoc _) e f = refl
var_lt_trans (Local _ _) (Global _) _ e f = cc
var_lt_trans (Local _ _) (Local _ _) (Global _) e f = cc
var_lt_trans (Local _ _) (Local _ _) (Havoc _) e f = refl
var_lt_trans (Local _ _) (Havoc _) (Global _) e f = cc
var_lt_trans (Local _ _) (Havoc _) (Local _ _) e f = cc
var_lt_trans (Local _ _) (Havoc _) (Havoc _) e f = refl
var_lt_trans (Havoc _) (Global _) _ e f = cc
var_lt_trans (Havoc _) (Local _ _) _ e f = cc
var_lt_trans (Havoc _) (Havoc _) (Global _) e f = cc
var_lt_trans (Havoc _) (Havoc _) (Local _ _) e f = cc
