use Rattle.std.proofs.Common.{All, List, subst}
use Rattle.std.proofs.lemmas.List.{take_all}
use Rattle.std.proofs.lemmas.Result.{err_from_is_err_and}
use Rattle.ps_elim.specs.Combining.{CombinationFits}
use Rattle.ps_elim.specs.inner.Weighing.{AllPairsFit, IsPairable, pointed_to, vectors_of}
use Rattle.ps_elim.specs.declared.sign.Sign.TheVariants.{Positive}
use Rattle.ps_elim.specs.declared.weighted.Weighted.{Weighted}
use Rattle.ps_elim.proofs.Pairing.{all_pairs-step, fits-step, pointed_item, same_error, vector_item}
use Rattle.ps_term.specs.declared.term.TermEnd.TheVariants.{Past128}
use denote.Ref.{Bor}
use Rattle.ps_elim.proofs.next.with_pairs.Goals as goal

pub with_pairs_of-requires : goal.with_pairs_of-requires
with_pairs_of-requires g c =
    (pointed_item (IsPairable g.rows Positive c.args.variable) c.args.positives.now c.loop-positive.positive-index c.positive-item.result c.loop-positive-test.true c.positive-item.is c.requires.0, (c.requires.1.0, c.loop-positive.invariant.weighted))

pub returns-in_err-all-clause-past : goal.returns-in_err-all-clause-past
returns-in_err-all-clause-past g c =
    let end = err_from_is_err_and c.from_residual.result c.from_residual.ensures.1 in
    rw (end.1, end.2) (λ past all. c.in_err-all.ensures.past (same_error c.in_err-all.field-0.0 Past128 past) (vector_item (λ p. All (CombinationFits g.rows c.args.variable p) (vectors_of (pointed_to c.args.negatives.now))) c.args.positives.now c.loop-positive.positive-index c.positive-item.result c.loop-positive-test.true c.positive-item.is all))

pub loop-positive-preserved : goal.loop-positive-preserved
loop-positive-preserved g c =
    let x = c.args.variable in
    let refs = c.args.positives.now in
    let i = c.loop-positive.positive-index in
    let r = c.positive-item.result in
    let qs = vectors_of (pointed_to c.args.negatives.now) in
    record {
      weighted = c.in_ok-all.ensures.weighted;
      vectors = all_pairs-step g.rows x refs i r qs c.loop-positive.all.items c.in_ok-all.all.items c.args.made.items c.loop-positive-test.true c.positive-item.is c.loop-positive.invariant.vectors c.in_ok-all.ensures.vectors;
      fits = fits-step (λ p. All (CombinationFits g.rows x p) qs) refs i r c.loop-positive-test.true c.positive-item.is c.loop-positive.invariant.fits c.in_ok-all.ensures.fits;
    }

pub returns-clause-fits : goal.returns-clause-fits
returns-clause-fits g c =
    let refs = c.args.positives.now in
    subst (λ (rs : List (Bor Weighted)). AllPairsFit g.rows c.args.variable (vectors_of (pointed_to rs)) (vectors_of (pointed_to c.args.negatives.now))) (take_all c.loop-positive.positive-index refs c.loop-positive-test.false) c.loop-positive.invariant.fits
