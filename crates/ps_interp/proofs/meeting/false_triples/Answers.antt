use Rattle.std.proofs.Common.{◌≡◌, ◌-◌, ◌<◌, [], length, get_or, arith}
use Rattle.ps_interp.specs.declared.weights.WeighedLetter.{WeighedLetter}
use Rattle.ps_triple.proofs.Membership.{any_default}
use Rattle.ps_interp.proofs.Falling.{falses_more}
use Rattle.ps_interp.proofs.meeting.false_triples.Goals as goal

abbrev any_letter : WeighedLetter
any_letter = record { thread = 0; command = 0; weights = record { ref_ptr = (0, 0); now = [] } }

pub loop-left-preserved : goal.loop-left-preserved
loop-left-preserved c =
    let x : WeighedLetter = get_or c.as_slice-letters.result.now (c.loop-left.left - 1) any_letter in
    let some : 0 < c.loop-left.left = omega (arith, c.loop-left-test.true) in
    let is : x ≡ get_or c.as_slice-letters.result.now (c.loop-left.left - 1) x =
    any_default c.as_slice-letters.result.now (c.loop-left.left - 1) any_letter x (let h : c.loop-left.left - 1 < length c.as_slice-letters.result.now = omega (arith, some, c.loop-left.invariant.within) in h) in
    record {
      within = omega (arith, c.loop-left.invariant.within);
      above = omega (arith, c.loop-left-test.true);
      first = falses_more c.args.cuts.now.setting.now c.as_slice-letters.result.now c.loop-left.left x c.loop-left.entries c.push_once.new.self c.in_ok-entry.entry some c.loop-left.invariant.within is
          c.in_ok-entry.ensures c.loop-left.invariant.first c.in_ok-push_once.ensures;
    }
