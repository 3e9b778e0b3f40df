use Rattle.std.proofs.Common.{ℕ, List, length, sym, ap, ◌∙◌, subst, subst₂}
use Rattle.std.proofs.lemmas.Result.{err_from_is_err_and}
use Rattle.ps_elim.specs.Combining.{CombinationFits}
use Rattle.ps_elim.specs.Vectors.{IsSum}
use Rattle.ps_elim.proofs.Entries.{EntriesFit}
use Rattle.ps_elim.proofs.Pairing.{first_weight, on_ok, pair_fits, pair_sum, same_error, second_weight}
use Rattle.ps_elim.proofs.Sums.{length-weighted_entries}
use Rattle.ps_term.specs.declared.term.TermEnd.TheVariants.{Past128}
use Rattle.ps_elim.proofs.pair.combined.Goals as goal

pub weighted_sum-requires-clause-long : goal.weighted_sum-requires-clause-long
weighted_sum-requires-clause-long g c = c.requires.0.0.long ∙ sym c.requires.1.0.long

pub returns-in_err-vector-clause-past : goal.returns-in_err-vector-clause-past
returns-in_err-vector-clause-past g c =
    let p = c.args.p.now in
    let q = c.args.q.now in
    let m = c.weights_of-weights.result in
    let first = first_weight g.rows c.args.variable p q m c.requires.0.0 c.requires.1.0 c.weights_of-weights.ensures.weights in
    let second = second_weight g.rows c.args.variable p q m c.requires.0.0 c.requires.1.0 c.weights_of-weights.ensures.weights in
    let end = err_from_is_err_and c.from_residual-in_err-vector.result c.from_residual-in_err-vector.ensures.1 in
    rw (end.1, end.2) (λ past fits. c.in_err-vector.ensures.past (same_error c.in_err-vector.field-0.0 Past128 past) (subst₂ (λ (i j : ℕ). EntriesFit i j p.vector q.vector) (sym first) (sym second) fits.entries))

pub reduced-requires : goal.reduced-requires
reduced-requires g c =
    let p = c.args.p.now in
    let q = c.args.q.now in
    let m = c.weights_of-weights.result in
    let h = c.requires.0.0 in
    let k = c.requires.1.0 in
    let is = c.in_ok-vector.ensures.entries in
    (ap (λ (v : List ℕ). length v) is ∙ (length-weighted_entries m.first p.vector m.second q.vector (h.long ∙ sym k.long) ∙ h.long), (c.in_ok-vector.ensures.small, subst (λ (v : List ℕ). IsSum g.rows v c.in_ok-row.row) (sym is) (pair_sum g.rows p q m.first m.second c.in_ok-row.row h k c.in_ok-row.ensures.coefficients c.in_ok-row.ensures.constant)))

pub returns-clause-fits : goal.returns-clause-fits
returns-clause-fits g c =
    let p = c.args.p.now in
    let q = c.args.q.now in
    let m = c.weights_of-weights.result in
    let first = first_weight g.rows c.args.variable p q m c.requires.0.0 c.requires.1.0 c.weights_of-weights.ensures.weights in
    let second = second_weight g.rows c.args.variable p q m c.requires.0.0 c.requires.1.0 c.weights_of-weights.ensures.weights in
    on_ok (CombinationFits g.rows c.args.variable p.vector q.vector) c.map_err.result (pair_fits g.rows c.args.variable p q m.first m.second c.requires.0.0 c.requires.1.0 first second c.in_ok-vector.ensures.fits c.in_ok-row.ensures.fits)
