use Rattle.std.proofs.Common.{◌≡◌, ◌++◌, ◌∷◌, [], ℤ, pos, get_or, to_z, of_z, FitsSigned, rules}
use Rattle.std.specs.Int.{w128}
use Rattle.std.proofs.lemmas.Int.{to_z-of_z}
use Rattle.ps_term.specs.declared.var.Var.{Var}
use Rattle.ps_term.specs.declared.var.Var.TheVariants.{Global}
use Rattle.ps_term.specs.Whole.{IsCeiling}
use Rattle.ps_term.proofs.Divisions.{AreDivided-step}
use Rattle.ps_term.proofs.tightening.divided.Goals as goal

pub loop-pair-preserved : goal.loop-pair-preserved
loop-pair-preserved c =
    let ps = c.args.pairs.now in
    let i = c.loop-pair.pair-index in
    let d : Var × ℤ = (Global 0, pos 0) in
    let q = c.ceil_quotient-coefficient.result in
    let fits : FitsSigned w128 (get_or ps i d).1 = search rules in
    let fits_q : FitsSigned w128 q = search rules in
    let ceiling : IsCeiling (get_or ps i d).1 (pos c.args.factor) q = simp to_z-of_z at c.ceil_quotient-coefficient.ensures in
    let pushed : c.push.new.self.items ≡ (c.loop-pair.list.items ++ ((get_or ps i d).0, to_z w128 (of_z w128 q)) ∷ []) = search rules in
    rw (pushed, to_z-of_z) (AreDivided-step c.args.factor ps c.loop-pair.list.items i d q c.requires.positive c.requires.divides c.loop-pair-test.true c.loop-pair.invariant ceiling)
