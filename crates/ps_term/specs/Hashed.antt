-- How an index tells pairs apart and hashes them, with the laws of that.
use Rattle.std.specs.Prelude.{◌≡◌, ℤ, Bool, ◌&&◌, ◌++◌}
use Rattle.std.specs.Bool.{Decides}
use Rattle.std.specs.Hash as fed
use Rattle.std.specs.Ordering.{int_eq}
use Rattle.std.proofs.Common.{ap, arith}
use Rattle.std.proofs.lemmas.Bool.Decides.{Decides-and, Decides-int_eq, Decides-like, nat_tests}
use Rattle.ps_term.specs.contracts.var.VarHash.TheImpl as hashes
use Rattle.ps_term.specs.contracts.var.VarPartialEq.TheImpl as tests
use Rattle.ps_term.specs.declared.var.Var.{Var}
use Rattle.ps_term.specs.declared.var.Var.TheVariants.{Global, Local, Havoc}

-- the two pairs are one
abbrev pub pair_eq : Var × ℤ → Var × ℤ → Bool
pair_eq p q = tests.ghosts.eq p.0 q.0 && int_eq p.1 q.1

-- what a hash is fed of a pair
abbrev pub pair_fed : Var × ℤ → fed.HashWrites
pair_fed p = hashes.ghosts.hash_input p.0 ++ fed.i128 p.1

pub var_decides : (a b : Var) → Decides (tests.ghosts.eq a b) (a ≡ b)
var_decides (Global m) (Global n) = ((λ e. grind (arith, nat_tests)), (λ e. grind (arith, nat_tests)))
var_decides (Local s m) (Local t n) = ((λ e. grind (arith, nat_tests)), (λ e. grind (arith, nat_tests)))
var_decides (Havoc m) (Havoc n) = ((λ e. grind (arith, nat_tests)), (λ e. grind (arith, nat_tests)))
var_decides (Global _) (Local _ _) = ((λ e. cc), (λ e. cc))
var_decides (Global _) (Havoc _) = ((λ e. cc), (λ e. cc))
var_decides (Local _ _) (Global _) = ((λ e. cc), (λ e. cc))
var_decides (Local _ _) (Havoc _) = ((λ e. cc), (λ e. cc))
var_decides (Havoc _) (Global _) = ((λ e. cc), (λ e. cc))
var_decides (Havoc _) (Local _ _) = ((λ e. cc), (λ e. cc))

pub pair_decides : (p q : Var × ℤ) → Decides (pair_eq p q) (p ≡ q)
pair_decides p q =
    Decides-like (pair_eq p q) (λ e. λ i. (e.0 i, e.1 i)) (λ e. (ap (λ (r : Var × ℤ). r.0) e, ap (λ (r : Var × ℤ). r.1) e)) (Decides-and (tests.ghosts.eq p.0 q.0) (int_eq p.1 q.1) (var_decides p.0 q.0) (Decides-int_eq p.1 q.1))
