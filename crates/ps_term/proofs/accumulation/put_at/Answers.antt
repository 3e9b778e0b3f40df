use Rattle.std.proofs.Common.{◌≡◌, ◌∙◌, FitsSigned, refl, rules}
use Rattle.std.specs.Int.{w128}
use Rattle.std.specs.Prelude.{insert}
use Rattle.std.proofs.lemmas.Int.{to_z-of_z}
use Rattle.ps_term.proofs.Placing.{set_found, set_missing}
use Rattle.ps_term.proofs.accumulation.put_at.Goals as goal

pub returns-then-stands_at : goal.returns-then-stands_at
returns-then-stands_at c =
    let fits : FitsSigned w128 c.args.sum = c.ranges.sum in
    rw to_z-of_z (set_found c.args.variable c.args.sum c.args.sums.now.items c.args.sums.now.items c.as_slice.result.now c.args.place c.stands_at.result refl c.as_slice.ensures.value c.requires.within c.requires.parts c.stands_at.ensures c.if-stands_at.true)

pub returns : goal.returns
returns c =
    let put : c.insert.new.self.items ≡ insert c.args.sums.now.items c.args.place (c.args.variable, c.args.sum) = search rules in
    put ∙ set_missing c.args.variable c.args.sum c.args.sums.now.items c.args.sums.now.items c.as_slice.result.now c.args.place c.stands_at.result refl c.as_slice.ensures.value c.requires.within c.requires.parts c.stands_at.ensures c.if-stands_at.false
