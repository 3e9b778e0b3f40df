use Rattle.std.proofs.Common.{FitsSigned, rules, ap, ◌∙◌}
use Rattle.std.specs.Int.{w128}
use Rattle.std.proofs.lemmas.Int.{to_z-of_z}
use Rattle.ps_term.specs.inner.Front.{front_coefficient}
use Rattle.ps_term.proofs.Adding.{sum_at_place}
use Rattle.ps_term.proofs.Placing.{is_place}
use Rattle.ps_term.proofs.accumulation.sum_at.Goals as goal

pub returns : goal.returns
returns c =
    let x = c.args.variable in
    let ps = c.args.sums.now in
    let fits : FitsSigned w128 c.in_front.result = search rules in
    to_z-of_z w128 c.in_front.result fits ∙ (c.in_front.ensures ∙ (ap (front_coefficient x) c.tail.ensures
    ∙ sum_at_place x ps c.args.place c.requires.rising (is_place x ps c.args.place c.requires.within c.requires.parts)))
