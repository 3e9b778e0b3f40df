use Rattle.std.proofs.Common.{FitsSigned, rules, ap, ◌∙◌}
use Rattle.std.specs.Int.{w128}
use Rattle.std.proofs.lemmas.Int.{to_z-of_z}
use Rattle.ps_term.specs.inner.Front.{front_coefficient}
use Rattle.ps_term.proofs.Lookups.{coefficient-searched}
use Rattle.ps_term.proofs.lookup.stop_at.Goals as goal

pub returns-clause-coefficient : goal.returns-clause-coefficient
returns-clause-coefficient c =
    let x = c.args.variable in
    let fits : FitsSigned w128 c.in_front.result = search rules in
    to_z-of_z w128 c.in_front.result fits ∙ (c.in_front.ensures ∙ (ap (front_coefficient x) c.tail.ensures ∙ coefficient-searched x c.args.pairs.now c.place_of-place.result c.requires c.place_of-place.ensures.parts))
