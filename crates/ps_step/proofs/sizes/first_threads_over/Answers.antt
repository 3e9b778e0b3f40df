use Rattle.std.proofs.Common.{List, subst}
use Rattle.ps_atom.specs.declared.atom.Atom.{Atom}
use Rattle.ps_config.specs.declared.config.TheConstants.{MOST_THREADS}
use Rattle.ps_step.specs.inner.Sets.{HasThreadsWith}
use Rattle.ps_step.proofs.Over.{fine_more, first_over}
use Rattle.ps_step.proofs.sizes.first_threads_over.Goals as goal

pub returns-then-count-gt-MOST_THREADS : goal.returns-then-count-gt-MOST_THREADS
returns-then-count-gt-MOST_THREADS c =
    first_over MOST_THREADS (HasThreadsWith c.args.at.now) c.args.sets.now c.loop-set.set-index c.thread_count-count.result c.set-item.result c.loop-set-test.true c.set-item.is
    (subst (λ (set : List Atom). HasThreadsWith c.args.at.now set c.thread_count-count.result) c.as_slice.ensures.value c.thread_count-count.ensures) c.if-count-gt-MOST_THREADS.true c.loop-set.invariant

pub loop-set-preserved : goal.loop-set-preserved
loop-set-preserved c =
    fine_more MOST_THREADS (HasThreadsWith c.args.at.now) c.args.sets.now c.loop-set.set-index c.thread_count-count.result c.set-item.result c.loop-set-test.true c.set-item.is
    (subst (λ (set : List Atom). HasThreadsWith c.args.at.now set c.thread_count-count.result) c.as_slice.ensures.value c.thread_count-count.ensures) c.if-count-gt-MOST_THREADS.false c.loop-set.invariant
