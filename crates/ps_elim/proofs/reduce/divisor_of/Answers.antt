use Rattle.std.proofs.Common.{ℕ, ℤ, pos, get_or, unsigned_abs, FitsSigned, rules, subst}
use Rattle.std.specs.Int.{w128, IsGcd}
use Rattle.std.proofs.lemmas.Int.{to_z-of_z}
use Rattle.ps_term.specs.declared.var.Var.{Var}
use Rattle.ps_term.specs.declared.var.Var.TheVariants.{Global}
use Rattle.ps_term.proofs.Divisions.{IsCommonFactor-step}
use Rattle.ps_elim.proofs.reduce.divisor_of.Goals as goal

pub loop-pair-preserved : goal.loop-pair-preserved
loop-pair-preserved c =
    let ps = c.args.pairs.now in
    let i = c.loop-pair.pair-index in
    let d : Var × ℤ = (Global 0, pos 0) in
    let fits : FitsSigned w128 (get_or ps i d).1 = search rules in
    let size = simp to_z-of_z at c.unsigned_abs.ensures.value in
    let gcd : IsGcd c.loop-pair.divisor (unsigned_abs (get_or ps i d).1) c.gcd-divisor.result = subst (λ (n : ℕ). IsGcd c.loop-pair.divisor n c.gcd-divisor.result) size c.gcd-divisor.ensures.greatest in
    IsCommonFactor-step ps i d c.loop-pair.divisor c.gcd-divisor.result c.loop-pair.invariant c.loop-pair-test.true gcd
