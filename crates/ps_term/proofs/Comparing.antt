-- The derived order of variables is that of the tests.
use Rattle.std.proofs.Common.{◌≡◌, Bool, true, false, if◌then◌else◌, refl, arith}
use Rattle.std.specs.declared.cmp.Ordering.TheVariants.{Less, Equal, Greater}
use Rattle.std.specs.Ordering.{match_ordering}
use Rattle.std.proofs.lemmas.Bool.Decides.{nat_tests}
use Rattle.ps_term.specs.contracts.var.VarOrd.TheImpl.{cmp-value}
use Rattle.ps_term.specs.declared.var.Var.{Var}
use Rattle.ps_term.specs.declared.var.Var.TheVariants.{Global, Local, Havoc}
use Rattle.ps_term.specs.Var.{var_eq, var_lt}

pub cmp_is : (a b : Var) → cmp-value.it a b ≡ (if var_eq a b then Equal else (if var_lt a b then Less else Greater))
cmp_is (Global m) (Global n) = grind (arith, nat_tests)
cmp_is (Local s m) (Local t n) = grind (arith, nat_tests)
cmp_is (Havoc m) (Havoc n) = grind (arith, nat_tests)
cmp_is (Global _) (Local _ _) = refl
cmp_is (Global _) (Havoc _) = refl
cmp_is (Local _ _) (Global _) = refl
cmp_is (Local _ _) (Havoc _) = refl
cmp_is (Havoc _) (Global _) = refl
cmp_is (Havoc _) (Local _ _) = refl

pub by_order : {X : Type 0} (same less : Bool) (l e g h : X) → g ≡ h → match_ordering (if same then Equal else (if less then Less else Greater)) l e g ≡ (if same then e else (if less then l else h))
by_order true less l e g h i = refl
by_order false true l e g h i = refl
by_order false false l e g h i = i
