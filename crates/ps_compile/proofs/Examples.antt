-- What the worked examples rest on: commands that differ, and numbers within a limit.
use Rattle.std.proofs.Common.{◌≡◌, ◌≢◌, Bool, true, false, not, ◌&&◌, nat_lt, ap, ℕ, zero, suc, ◌+◌, ◌<◌, ℤ, pos, ◌+ℤ◌, ◌*ℤ◌, List, [], ◌∷◌, length, arith}
use Rattle.std.specs.Prelude.{AllPairs, slice_index_or}
use Rattle.std.specs.List.{list_all}
use Rattle.std.specs.Ordering.{int_eq}
use Rattle.std.proofs.lemmas.Bool.Decides.{nat_tests}
use Rattle.std.proofs.lemmas.Int.{ints}
use Rattle.ps_command.specs.declared.command.Command.{Command}
use Rattle.ps_command.specs.declared.op.Op.{Op}
use Rattle.ps_command.specs.declared.op.Op.TheVariants.{Assume, Assign, Havoc}
use Rattle.ps_compile.proofs.Declaring.{left_of, right_of}
use Rattle.ps_term.specs.declared.term.Term.{Term}
use Rattle.ps_term.specs.declared.var.Var.{Var}
use Rattle.ps_term.specs.declared.var.Var.TheVariants.{Global, Local, Havoc as HavocVar}

-- a number by which the commands of the examples are told apart
abbrev var_mark : Var → ℤ
var_mark (Global n) = pos n
var_mark (Local _ n) = pos (20 + n)
var_mark (HavocVar n) = pos (40 + n)

abbrev first : List (Var × ℤ) → ℤ
first [] = pos 0
first (p ∷ _) = (p.1 *ℤ pos 10) +ℤ (var_mark p.0 *ℤ pos 100)

abbrev mark : Term → ℤ
mark t = first t.pairs +ℤ t.constant

abbrev pub marks : List Op → ℤ
marks [] = pos 100
marks (Assume r ∷ ops) = mark r.term +ℤ (pos 1000 *ℤ marks ops)
marks (Assign x t ∷ ops) = ((mark t +ℤ pos 500) +ℤ (var_mark x *ℤ pos 100000)) +ℤ (pos 1000 *ℤ marks ops)
marks (Havoc _ ∷ ops) = pos 1000 *ℤ marks ops

abbrev pub is_other : Command → Command → Bool
is_other c d = not (int_eq (marks c.ops) (marks d.ops))

abbrev pub all_other : List Command → Bool
all_other [] = true
all_other (c ∷ cs) = list_all (is_other c) cs && all_other cs

differ : (m n : ℤ) → not (int_eq m n) ≡ true → ¬ (m ≡ n)
differ m n h e = grind (arith, ints)

pub are_different : (cs : List Command) → all_other cs ≡ true → AllPairs (λ (c d : Command). c ≢ d) cs
are_different [] h i j d l m = let none : ⊥ = omega (arith, m) in absurd none
are_different (c ∷ cs) h zero zero d l m = let none : ⊥ = omega (arith, l) in absurd none
are_different (c ∷ cs) h zero (suc j) d l m = at cs j (left_of (list_all (is_other c) cs) (all_other cs) h) (omega (arith, m))
  where
    at : (es : List Command) (j : ℕ) → list_all (is_other c) es ≡ true → j < length es → c ≢ slice_index_or es j d
    at [] j f k = let none : ⊥ = omega (arith, k) in absurd none
    at (e ∷ es) zero f k = λ same. differ (marks c.ops) (marks e.ops) (left_of (is_other c e) (list_all (is_other c) es) f) (ap (λ (b : Command). marks b.ops) same)
    at (e ∷ es) (suc j) f k = at es j (right_of (is_other c e) (list_all (is_other c) es) f) (omega (arith, k))
are_different (c ∷ cs) h (suc i) zero d l m = let none : ⊥ = omega (arith, l) in absurd none
are_different (c ∷ cs) h (suc i) (suc j) d l m =
    are_different cs (right_of (list_all (is_other c) cs) (all_other cs) h) i j d (omega (arith, l)) (omega (arith, m))

-- a number above the most, and one within it
pub above : (n most : ℕ) → nat_lt most n ≡ true → most < n
above n most h = grind (arith, nat_tests)

pub within : (n most : ℕ) → nat_lt most n ≡ false → ¬ (most < n)
within n most h l = grind (arith, nat_tests)

-- what doesn't hold
pub never : (b : Bool) → b ≡ false → b ≡ true → ⊥
never true e h = cc
never false e h = cc
