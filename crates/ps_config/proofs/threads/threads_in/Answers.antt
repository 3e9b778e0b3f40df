use Rattle.std.proofs.Common.{◌<◌, arith, rules}
use Rattle.ps_config.specs.Configurations.{threads_at}
use Rattle.ps_config.proofs.Bounded.{listed_few}
use Rattle.ps_config.proofs.Nexts.{listed_more, listed_all}
use Rattle.ps_config.proofs.threads.threads_in.Goals as goal

pub with-threads-requires : goal.with-threads-requires
with-threads-requires c =
    listed_few (record { at = c.args.at.now; atoms = c.args.atoms.now }) c.requires c.loop-thread.from c.in-Some.thread c.loop-thread.threads c.loop-thread.invariant.listed c.in-Some.ensures

pub loop-thread-preserved : goal.loop-thread-preserved
loop-thread-preserved c =
    let small : c.in-Some.thread < 4294967296 = search rules in
    record {
      listed = rw c.from-from.ensures (listed_more (threads_at (record { at = c.args.at.now; atoms = c.args.atoms.now })) c.loop-thread.from c.in-Some.thread c.loop-thread.threads c.with-threads.result c.loop-thread.invariant.listed c.in-Some.ensures c.with-threads.ensures);
      fits = omega (arith, small, c.from-from.ensures);
    }

pub returns : goal.returns
returns c = listed_all (record { at = c.args.at.now; atoms = c.args.atoms.now }) c.loop-thread.from c.loop-thread.threads c.loop-thread.invariant.listed c.in_default.ensures
