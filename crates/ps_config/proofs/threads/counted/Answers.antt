use Rattle.std.proofs.Common.{◌<◌, ◌≤◌, Some, arith, rules}
use Rattle.ps_config.specs.Configurations.{threads_at}
use Rattle.ps_config.specs.Next.{IsNextThread}
use Rattle.ps_config.proofs.Nexts.{counted_more, counted_all}
use Rattle.ps_config.proofs.threads.counted.Goals as goal

pub loop-thread-preserved : goal.loop-thread-preserved
loop-thread-preserved c =
    let next : IsNextThread (threads_at (record { at = c.args.at.now; atoms = c.args.atoms.now })) c.loop-thread.from (Some c.in-Some.thread) = c.in-Some.ensures in
    let above : c.loop-thread.from ≤ c.in-Some.thread = next.1 in
    let small : c.in-Some.thread < 4294967296 = search rules in
    record {
      counted = rw c.from-from.ensures (counted_more (threads_at (record { at = c.args.at.now; atoms = c.args.atoms.now })) c.loop-thread.from c.in-Some.thread c.loop-thread.count c.loop-thread.invariant.counted next);
      fits = omega (arith, small, c.from-from.ensures);
      few = omega (arith, above, c.loop-thread.invariant.few, c.from-from.ensures);
    }

pub returns : goal.returns
returns c = counted_all (record { at = c.args.at.now; atoms = c.args.atoms.now }) c.loop-thread.from c.loop-thread.count c.loop-thread.invariant.counted c.in_default.ensures
