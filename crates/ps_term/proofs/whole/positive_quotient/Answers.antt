use Rattle.std.proofs.Common.{◌≡◌, ℤ, pos, ◌<◌, ◌^◌, unsigned_abs, FitsSigned, rules, sym, subst}
use Rattle.std.specs.Int.{w128, div_ceil}
use Rattle.std.proofs.lemmas.Int.{to_z_pos, to_z-of_z}
use Rattle.ps_term.specs.Whole.{IsCeiling}
use Rattle.ps_term.proofs.Ceilings.{positive_ceiling}
use Rattle.ps_term.proofs.whole.positive_quotient.Goals as goal

pub returns : goal.returns
returns c =
    let a : FitsSigned w128 c.args.a = c.ranges.a in
    let small : c.div_ceil.result < 2 ^ 127 = search rules in
    let size = simp to_z-of_z at c.unsigned_abs.ensures.value in
    let is : c.div_ceil.result ≡ div_ceil (unsigned_abs c.args.a) c.args.b = subst (λ n. c.div_ceil.result ≡ div_ceil n c.args.b) size c.div_ceil.ensures in
    subst (λ (z : ℤ). IsCeiling c.args.a (pos c.args.b) z) (sym (to_z_pos w128 c.div_ceil.result small)) (positive_ceiling c.args.a c.args.b c.div_ceil.result c.requires.positive c.requires.divisor is)
