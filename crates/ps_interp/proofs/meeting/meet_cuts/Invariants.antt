use Rattle.std.proofs.Common.{◌≤◌}
use Rattle.std.specs.Prelude.{Some}
use Rattle.ps_interp.specs.inner.Meetings.{AreMet, interpolant_of, letters_in}
use Rattle.ps_interp.proofs.meeting.meet_cuts.Given as goal

abbrev pub invariant-loop-cut : goal.invariant-loop-cut
invariant-loop-cut l = record {
  above : l.cuts.low ≤ l.cut;
  below : l.cut ≤ l.cuts.high;
  met : AreMet l.cuts.setting.now (letters_in l.cuts) l.fn.found.table l.fn.found.entries l.cuts.high l.cut l.found (Some (interpolant_of l.after));
}

abbrev pub decreases-loop-cut : goal.decreases-loop-cut
decreases-loop-cut l = l.cut
