use Rattle.std.proofs.Common.{◌≡◌, ◌++◌, ◌∷◌, [], rules}
use Rattle.std.proofs.lemmas.List.Elements.{All-push}
use Rattle.std.proofs.lemmas.Result.{err_from_is_err_and}
use Rattle.ps_elim.specs.Combining.{CombinationFits, combined}
use Rattle.ps_elim.specs.inner.Weighing.{IsPairable, IsWeighted}
use Rattle.ps_elim.specs.declared.sign.Sign.TheVariants.{Negative}
use Rattle.ps_elim.proofs.Pairing.{fits-step, pairs-step, pointed_item, same_error, vector_item}
use Rattle.ps_term.specs.declared.term.TermEnd.TheVariants.{Past128}
use Rattle.ps_elim.proofs.next.with_pairs_of.Goals as goal

pub combined-requires : goal.combined-requires
combined-requires g c =
    (c.requires.0, pointed_item (IsPairable g.rows Negative c.args.variable) c.args.negatives.now c.loop-negative.negative-index c.negative-item.result c.loop-negative-test.true c.negative-item.is c.requires.1.0)

pub returns-in_err-combined-clause-past : goal.returns-in_err-combined-clause-past
returns-in_err-combined-clause-past g c =
    let end = err_from_is_err_and c.from_residual.result c.from_residual.ensures.1 in
    rw (end.1, end.2) (λ past all. c.in_err-combined.ensures.past (same_error c.in_err-combined.field-0.0 Past128 past) (vector_item (CombinationFits g.rows c.args.variable c.args.positive.now.vector) c.args.negatives.now c.loop-negative.negative-index c.negative-item.result c.loop-negative-test.true c.negative-item.is all))

pub loop-negative-preserved : goal.loop-negative-preserved
loop-negative-preserved g c =
    let w = c.in_ok-combined.field-0 in
    let x = c.args.variable in
    let p = c.args.positive.now.vector in
    let refs = c.args.negatives.now in
    let i = c.loop-negative.negative-index in
    let r = c.negative-item.result in
    let all = c.loop-negative.all.items in
    let pushed : c.push.new.self.items ≡ all ++ w ∷ [] = search rules in
    rw pushed (record {
      weighted = All-push (IsWeighted g.rows) all w c.loop-negative.invariant.weighted c.in_ok-combined.ensures.weighted;
      vectors = pairs-step (combined g.rows x p) refs i r all c.args.made.items w c.loop-negative-test.true c.negative-item.is c.loop-negative.invariant.vectors c.in_ok-combined.ensures.vector;
      fits = fits-step (CombinationFits g.rows x p) refs i r c.loop-negative-test.true c.negative-item.is c.loop-negative.invariant.fits c.in_ok-combined.ensures.fits;
    })
