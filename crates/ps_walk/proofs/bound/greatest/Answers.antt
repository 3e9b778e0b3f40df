use Rattle.std.proofs.Common.{FitsSigned, rules}
use Rattle.std.specs.Int.{w128}
use Rattle.std.proofs.lemmas.Int.{to_z-of_z}
use Rattle.ps_walk.proofs.Bounding.{greatest_some, greatest_none}
use Rattle.ps_walk.proofs.bound.greatest.Goals as goal

pub returns-clause-bound : goal.returns-clause-bound
returns-clause-bound c =
    let a : FitsSigned w128 c.args.a = c.ranges.a in
    let k : FitsSigned w128 c.args.c = c.ranges.c in
    let q : FitsSigned w128 c.ceil_div.result = search rules in
    greatest_some c.checked_neg.result c.args.a c.args.c c.ceil_div.result c.requires (simp to_z-of_z at c.ceil_div.ensures) (simp to_z-of_z at c.checked_neg.ensures)

pub returns-clause-past : goal.returns-clause-past
returns-clause-past c =
    let a : FitsSigned w128 c.args.a = c.ranges.a in
    let k : FitsSigned w128 c.args.c = c.ranges.c in
    let q : FitsSigned w128 c.ceil_div.result = search rules in
    greatest_none c.checked_neg.result c.args.a c.args.c c.ceil_div.result c.requires (simp to_z-of_z at c.ceil_div.ensures) (simp to_z-of_z at c.checked_neg.ensures)
