use Rattle.std.proofs.Common.{◌≡◌, FitsSigned, neg_ℤ, negsuc, rules}
use Rattle.std.specs.Int.{w128}
use Rattle.std.proofs.lemmas.Int.{to_z-of_z}
use Rattle.ps_term.specs.Whole.{IsCeiling}
use Rattle.ps_walk.proofs.Bounding.{least_is, least_number}
use Rattle.ps_walk.proofs.bound.least.Goals as goal

pub returns-in-Some : goal.returns-in-Some
returns-in-Some c =
    let a : FitsSigned w128 c.args.a = c.ranges.a in
    let k : FitsSigned w128 c.args.c = c.ranges.c in
    let q : FitsSigned w128 c.ceil_div.result = search rules in
    let b : FitsSigned w128 c.in-Some.b = search rules in
    let is : c.in-Some.b ≡ neg_ℤ c.args.a = search rules in
    let ceiling : IsCeiling c.args.c c.in-Some.b c.ceil_div.result = simp to_z-of_z at c.ceil_div.ensures in
    rw to_z-of_z (least_is c.args.a c.in-Some.b c.args.c c.ceil_div.result c.requires is ceiling)

pub returns-in-None : goal.returns-in-None
returns-in-None c =
    let q : FitsSigned w128 c.least_at_least.result = search rules in
    let k : FitsSigned w128 c.args.c = c.ranges.c in
    let a : FitsSigned w128 c.args.a = c.ranges.a in
    let is : c.args.a ≡ negsuc 170141183460469231731687303715884105727 = least_number c.args.a c.requires a (simp to_z-of_z at c.in-None.ensures) in
    rw (is, to_z-of_z) (simp to_z-of_z at c.least_at_least.ensures)
