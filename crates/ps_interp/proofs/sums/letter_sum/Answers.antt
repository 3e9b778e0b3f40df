use Rattle.std.proofs.Common.{◌≡◌, ◌<◌, ap, sym, ◌∙◌, subst, List, length, map, get_or, pos, arith}
use Rattle.ps_interp.specs.Sums.{PlusRowsFit}
use Rattle.ps_term.specs.Exact.{number_term}
use Rattle.ps_term.specs.declared.row.Row.{Row}
use Rattle.ps_trace.specs.Rows.{row_of_thread, term_of_thread}
use Rattle.ps_triple.proofs.Membership.{any_default}
use Rattle.ps_interp.proofs.Adding.{added_past, added_step}
use Rattle.ps_interp.proofs.sums.letter_sum.Goals as goal

pub returns-in-Err-plus_weighted-clause-past : goal.returns-in-Err-plus_weighted-clause-past
returns-in-Err-plus_weighted-clause-past c =
    let within : c.adding.place < length c.as_slice-rows.result.now = c.adding-test.true in
    let many : length c.as_slice-rows.result.now ≡ length c.args.form.now.rows = ap length c.as_slice-rows.ensures in
    let there : c.adding.place < length c.args.weights.now = omega (arith, within, many, c.requires.as_many) in
    λ e. subst (λ (rs : List Row). ¬ PlusRowsFit (number_term (pos 0)) (map (row_of_thread c.args.thread 0) rs) c.args.weights.now) c.as_slice-rows.ensures
    (added_past c.args.thread c.as_slice-rows.result.now c.args.weights.now c.adding.sum c.in-Ok.own c.adding.place c.index-rows-place.result (get_or c.args.weights.now c.adding.place 0)
    c.adding.invariant within c.index-rows-place.is there (any_default c.args.weights.now c.adding.place 0 (get_or c.args.weights.now c.adding.place 0) there)
    (c.in-Ok.ensures ∙ ap (λ (r : Row). term_of_thread c.args.thread 0 r.term) (sym c.index-rows-place.is)) (c.in-Err-plus_weighted.ensures.past e))

pub adding-preserved : goal.adding-preserved
adding-preserved c =
    let within : c.adding.place < length c.as_slice-rows.result.now = c.adding-test.true in
    let many : length c.as_slice-rows.result.now ≡ length c.args.form.now.rows = ap length c.as_slice-rows.ensures in
    let there : c.adding.place < length c.args.weights.now = omega (arith, within, many, c.requires.as_many) in
    added_step c.args.thread c.as_slice-rows.result.now c.args.weights.now c.adding.sum c.in-Ok.own c.in-Ok-plus_weighted.sum c.adding.place c.index-rows-place.result (get_or c.args.weights.now c.adding.place 0)
    c.adding.invariant within c.index-rows-place.is there (any_default c.args.weights.now c.adding.place 0 (get_or c.args.weights.now c.adding.place 0) there)
    (c.in-Ok.ensures ∙ ap (λ (r : Row). term_of_thread c.args.thread 0 r.term) (sym c.index-rows-place.is)) c.in-Ok-plus_weighted.ensures.sum c.in-Ok-plus_weighted.ensures.fits
