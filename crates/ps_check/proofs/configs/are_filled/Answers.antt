use Rattle.std.proofs.Common.{refl, subst}
use Rattle.std.proofs.lemmas.Bool.{both_ways, false≢true}
use Rattle.ps_step.proofs.Seen.{all_seen, one_more, read_in}
use Rattle.ps_triple.specs.Tests.{IsAtomOf}
use Rattle.ps_check.proofs.configs.are_filled.Goals as goal

pub returns-then-not-is_filled : goal.returns-then-not-is_filled
returns-then-not-is_filled c = (
  (λ h. absurd (false≢true h)),
  (λ all. absurd (both_ways c.is_filled.result c.if-not-is_filled.true (c.is_filled.ensures.1 (all c.atom-item.result (read_in c.args.atoms.now c.loop-atom.atom-index c.atom-item.result c.loop-atom-test.true c.atom-item.is))))),
)

pub loop-atom-preserved : goal.loop-atom-preserved
loop-atom-preserved c =
    one_more (IsAtomOf c.args.setting.now c.args.table.now) c.args.atoms.now c.loop-atom.atom-index c.atom-item.result c.loop-atom-test.true (subst (IsAtomOf c.args.setting.now c.args.table.now) c.atom-item.is (c.is_filled.ensures.0 c.if-not-is_filled.false)) c.loop-atom.invariant

pub returns : goal.returns
returns c = ((λ h q i. all_seen (IsAtomOf c.args.setting.now c.args.table.now) c.args.atoms.now c.loop-atom.atom-index c.loop-atom-test.false c.loop-atom.invariant q i), (λ h. refl))
