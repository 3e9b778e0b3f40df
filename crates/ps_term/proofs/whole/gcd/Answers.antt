use Rattle.std.proofs.Common.{◌≡◌, ◌↔◌, ℕ, arith, sym, subst}
use Rattle.std.specs.Int.{IsGcd, ◌∣◌}
use Rattle.std.proofs.lemmas.Nat.Gcd.{IsGcd-from_zero, IsGcd-from_mod, dvd-zero}
use Rattle.std.proofs.Math.Nat.{eq-zero_of_zero-dvd}
use Rattle.ps_term.proofs.whole.gcd.Goals as goal

pub dividing-preserved : goal.dividing-preserved
dividing-preserved c g h = c.dividing.invariant g (IsGcd-from_mod _ _ g h)

pub returns-clause-greatest : goal.returns-clause-greatest
returns-clause-greatest c = c.dividing.invariant _ (IsGcd-from_zero _ _ (omega arith))

zero_of_zeros : (a b g : ℕ) → IsGcd a b g → (g ≡ 0) ↔ ((a ≡ 0) × (b ≡ 0))
zero_of_zeros a b g d =
    (λ e. (eq-zero_of_zero-dvd (subst (λ (n : ℕ). n ∣ a) e d.0), eq-zero_of_zero-dvd (subst (λ (n : ℕ). n ∣ b) e d.1)), λ z. eq-zero_of_zero-dvd (d.2 0 (subst (λ (n : ℕ). 0 ∣ n) (sym z.0) (dvd-zero 0)) (subst (λ (n : ℕ). 0 ∣ n) (sym z.1) (dvd-zero 0))))

pub returns-clause-zero : goal.returns-clause-zero
returns-clause-zero c =
    zero_of_zeros c.args.a c.args.b c.dividing.greater (c.dividing.invariant _ (IsGcd-from_zero _ _ (omega arith)))
