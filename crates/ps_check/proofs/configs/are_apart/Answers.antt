use Rattle.std.proofs.Common.{refl, subst}
use Rattle.std.proofs.lemmas.Bool.{both_ways, false≢true}
use Rattle.ps_step.proofs.Seen.{all_seen, one_more, read_in}
use Rattle.ps_triple.specs.Tests.{HasThreadsOnce}
use Rattle.ps_check.proofs.configs.are_apart.Goals as goal

pub returns-then-not-has_threads_once : goal.returns-then-not-has_threads_once
returns-then-not-has_threads_once c = (
  (λ h. absurd (false≢true h)),
  (λ all. absurd (both_ways c.has_threads_once.result c.if-not-has_threads_once.true (c.has_threads_once.ensures.1 (all c.atom-item.result (read_in c.args.atoms.now c.loop-atom.atom-index c.atom-item.result c.loop-atom-test.true c.atom-item.is))))),
)

pub loop-atom-preserved : goal.loop-atom-preserved
loop-atom-preserved c =
    one_more HasThreadsOnce c.args.atoms.now c.loop-atom.atom-index c.atom-item.result c.loop-atom-test.true (subst HasThreadsOnce c.atom-item.is (c.has_threads_once.ensures.0 c.if-not-has_threads_once.false)) c.loop-atom.invariant

pub returns : goal.returns
returns c = ((λ h q i. all_seen HasThreadsOnce c.args.atoms.now c.loop-atom.atom-index c.loop-atom-test.false c.loop-atom.invariant q i), (λ h. refl))
