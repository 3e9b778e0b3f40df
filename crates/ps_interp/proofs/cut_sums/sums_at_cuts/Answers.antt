use Rattle.std.proofs.Common.{◌≡◌, ◌-◌, ◌<◌, sym, subst, [], length, drop, get_or, List, arith}
use Rattle.ps_interp.specs.Sums.{SumFits}
use Rattle.ps_interp.specs.declared.weights.WeighedLetter.{WeighedLetter}
use Rattle.ps_interp.specs.inner.Parts.{letters_by, sum_in, weighed_before, part_of}
use Rattle.ps_term.specs.declared.term.Term.{Term}
use Rattle.ps_triple.proofs.Membership.{any_default}
use Rattle.ps_interp.proofs.Parting.{AreSums, other_end, made_some, sums_fit, sums_more, sums_past}
use Rattle.ps_interp.proofs.cut_sums.sums_at_cuts.Goals as goal

pub next_sum-requires-clause-some : goal.next_sum-requires-clause-some
next_sum-requires-clause-some c =
    subst (λ (ts : List Term). 0 < length ts) (sym c.as_slice.ensures.value)
    (made_some (letters_by c.args.setting.now (drop c.loop-left.left c.args.letters.now)) c.loop-left.sums.items c.loop-left.invariant.made.sums_are)

abbrev any_letter : WeighedLetter
any_letter = record { thread = 0; command = 0; weights = record { ref_ptr = (0, 0); now = [] } }

pub loop-left-preserved : goal.loop-left-preserved
loop-left-preserved c =
    let x : WeighedLetter = get_or c.args.letters.now (c.loop-left.left - 1) any_letter in
    let is : x ≡ get_or c.args.letters.now (c.loop-left.left - 1) x =
    any_default c.args.letters.now (c.loop-left.left - 1) any_letter x (let h : c.loop-left.left - 1 < length c.args.letters.now = omega (arith, c.loop-left-test.true, c.loop-left.invariant.within) in h) in
    record {
      within = omega (arith, c.loop-left.invariant.within);
      made = sums_more c.args.setting.now c.args.letters.now c.loop-left.left x c.loop-left.sums.items c.push-in-loop-left.new.sums.items c.in-Ok.sum
          c.loop-left-test.true c.loop-left.invariant.within is c.loop-left.invariant.made
          (subst (λ (ts : List Term). c.in-Ok.sum ≡ (weighed_before c.args.setting.now (part_of x) (sum_in ts (length ts - 1))).before) c.as_slice.ensures.value c.in-Ok.ensures.sum)
          (subst (λ (ts : List Term). SumFits c.args.setting.now (weighed_before c.args.setting.now (part_of x) (sum_in ts (length ts - 1)))) c.as_slice.ensures.value c.in-Ok.ensures.fits)
          c.in_ok-push-2.ensures.sums;
    }

pub returns-in-Err-clause-past : goal.returns-in-Err-clause-past
returns-in-Err-clause-past c = λ e.
    let x : WeighedLetter = get_or c.args.letters.now (c.loop-left.left - 1) any_letter in
    let is : x ≡ get_or c.args.letters.now (c.loop-left.left - 1) x =
    any_default c.args.letters.now (c.loop-left.left - 1) any_letter x (let h : c.loop-left.left - 1 < length c.args.letters.now = omega (arith, c.loop-left-test.true, c.loop-left.invariant.within) in h) in
    sums_past c.args.setting.now c.args.letters.now c.loop-left.left x c.loop-left.sums.items
    c.loop-left-test.true c.loop-left.invariant.within is c.loop-left.invariant.made
    (subst (λ (ts : List Term). ¬ SumFits c.args.setting.now (weighed_before c.args.setting.now (part_of x) (sum_in ts (length ts - 1)))) c.as_slice.ensures.value
    (c.in-Err.ensures.past (other_end c.in-Err.end e)))

pub returns-clause-fits : goal.returns-clause-fits
returns-clause-fits c =
    sums_fit c.args.setting.now c.args.letters.now c.loop-left.sums.items
    (subst (λ (n : _). AreSums c.args.setting.now (drop n c.args.letters.now) c.loop-left.sums.items) (let e : c.loop-left.left ≡ 0 = omega (arith, c.loop-left-test.false) in e) c.loop-left.invariant.made)
