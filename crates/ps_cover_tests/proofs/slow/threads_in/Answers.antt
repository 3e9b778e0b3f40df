use Rattle.std.proofs.Common.{◌<◌, arith, rules}
use Rattle.ps_config.specs.Configurations.{threads_at}
use Rattle.ps_config.proofs.Nexts.{listed_more, listed_all}
use Rattle.ps_cover.specs.inner.Rests.{large_of}
use Rattle.ps_cover_tests.proofs.slow.threads_in.Goals as goal

pub loop-thread-preserved : goal.loop-thread-preserved
loop-thread-preserved c =
    let small : c.in-Some.thread < 4294967296 = search rules in
    record {
      listed = rw c.from-from.ensures (listed_more (threads_at (large_of c.args.at.now c.args.atoms.now)) c.loop-thread.from c.in-Some.thread c.loop-thread.threads.items _ c.loop-thread.invariant.listed c.in-Some.ensures c.in_ok-push.ensures.items);
      fits = omega (arith, small, c.from-from.ensures);
    }

pub returns : goal.returns
returns c = listed_all (large_of c.args.at.now c.args.atoms.now) c.loop-thread.from c.loop-thread.threads.items c.loop-thread.invariant.listed c.in_default.ensures
