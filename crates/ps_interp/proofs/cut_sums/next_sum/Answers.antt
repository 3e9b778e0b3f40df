use Rattle.std.proofs.Common.{◌∙◌, ◌-◌, ◌<◌, length, pos, arith}
use Rattle.ps_interp.specs.inner.Parts.{part_of, sum_in}
use Rattle.ps_term.specs.Exact.{number_term}
use Rattle.ps_triple.proofs.Membership.{any_default}
use Rattle.ps_interp.proofs.Parting.{next_fits, next_past, next_told}
use Rattle.ps_interp.proofs.cut_sums.next_sum.Goals as goal

pub returns-clause-sum : goal.returns-clause-sum
returns-clause-sum c =
    let within : length c.args.sums.now - 1 < length c.args.sums.now = omega (arith, c.requires.some) in
    next_told c.args.setting.now (part_of c.args.letter.now) c.form_of-form.result.now c.index-sums-sums.result (sum_in c.args.sums.now (length c.args.sums.now - 1)) c.sum_before.result
    c.form_of-form.ensures.form (c.index-sums-sums.is ∙ any_default c.args.sums.now (length c.args.sums.now - 1) c.index-sums-sums.result (number_term (pos 0)) within) c.sum_before.ensures.sum

pub returns-clause-fits : goal.returns-clause-fits
returns-clause-fits c =
    let within : length c.args.sums.now - 1 < length c.args.sums.now = omega (arith, c.requires.some) in
    next_fits c.args.setting.now (part_of c.args.letter.now) c.form_of-form.result.now c.index-sums-sums.result (sum_in c.args.sums.now (length c.args.sums.now - 1)) c.sum_before.result
    c.form_of-form.ensures.form (c.index-sums-sums.is ∙ any_default c.args.sums.now (length c.args.sums.now - 1) c.index-sums-sums.result (number_term (pos 0)) within)
    c.sum_before.ensures.rows_fit c.sum_before.ensures.next_fits c.sum_before.ensures.sum_fits

pub returns-clause-past : goal.returns-clause-past
returns-clause-past c = λ e.
    let within : length c.args.sums.now - 1 < length c.args.sums.now = omega (arith, c.requires.some) in
    next_past c.args.setting.now (part_of c.args.letter.now) c.form_of-form.result.now c.index-sums-sums.result (sum_in c.args.sums.now (length c.args.sums.now - 1))
    c.form_of-form.ensures.form (c.index-sums-sums.is ∙ any_default c.args.sums.now (length c.args.sums.now - 1) c.index-sums-sums.result (number_term (pos 0)) within) (c.sum_before.ensures.past e)
