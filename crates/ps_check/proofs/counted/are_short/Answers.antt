use Rattle.std.proofs.Common.{refl, subst}
use Rattle.std.proofs.lemmas.Bool.{both_ways, false≢true}
use Rattle.ps_step.proofs.Seen.{all_seen, one_more, read_in}
use Rattle.ps_triple.specs.Short.{AreShort}
use Rattle.ps_check.proofs.counted.are_short.Goals as goal

pub returns-then-not-is_short : goal.returns-then-not-is_short
returns-then-not-is_short c = (
  (λ h. absurd (false≢true h)),
  (λ all. absurd (both_ways c.is_short.result c.if-not-is_short.true (c.is_short.ensures.1 (all c.entry-item.result (read_in c.args.entries.now c.loop-entry.entry-index c.entry-item.result c.loop-entry-test.true c.entry-item.is))))),
)

pub loop-entry-preserved : goal.loop-entry-preserved
loop-entry-preserved c =
    one_more (AreShort c.args.setting.now) c.args.entries.now c.loop-entry.entry-index c.entry-item.result c.loop-entry-test.true (subst (AreShort c.args.setting.now) c.entry-item.is (c.is_short.ensures.0 c.if-not-is_short.false)) c.loop-entry.invariant

pub returns : goal.returns
returns c = ((λ h entry i. all_seen (AreShort c.args.setting.now) c.args.entries.now c.loop-entry.entry-index c.loop-entry-test.false c.loop-entry.invariant entry i), (λ h. refl))
