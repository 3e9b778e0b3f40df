use Rattle.std.proofs.Common.{refl, subst}
use Rattle.std.proofs.lemmas.Bool.{both_ways, false≢true}
use Rattle.ps_step.proofs.Seen.{all_seen, one_more, read_in}
use Rattle.ps_triple.specs.Faults.{EntryHolds}
use Rattle.ps_check.proofs.holding.do_all_hold.Goals as goal

pub returns-then-not-held : goal.returns-then-not-held
returns-then-not-held c = (
  (λ h. absurd (false≢true h)),
  (λ all. absurd (both_ways c.in_ok-held.held c.if-not-held.true (c.in_ok-held.ensures.1 (all c.entry-item.result (read_in c.args.entries.now c.loop-entry.entry-index c.entry-item.result c.loop-entry-test.true c.entry-item.is))))),
)

pub loop-entry-preserved : goal.loop-entry-preserved
loop-entry-preserved c =
    let Holds = EntryHolds c.args.setting.now c.args.table.now in
    one_more Holds c.args.entries.now c.loop-entry.entry-index c.entry-item.result c.loop-entry-test.true (subst Holds c.entry-item.is (c.in_ok-held.ensures.0 c.if-not-held.false)) c.loop-entry.invariant

pub returns : goal.returns
returns c = ((λ h entry i. all_seen (EntryHolds c.args.setting.now c.args.table.now) c.args.entries.now c.loop-entry.entry-index c.loop-entry-test.false c.loop-entry.invariant entry i), (λ h. refl))
