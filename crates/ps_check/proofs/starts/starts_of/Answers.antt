use Rattle.ps_check.proofs.Indexing.{starts_more}
use Rattle.ps_check.proofs.starts.starts_of.Goals as goal

pub loop-place-preserved : goal.loop-place-preserved
loop-place-preserved c = starts_more c.args.located.now c.loop-place.place c.loop-place.starts.items c.push.new.self.items c.in_ok-own.own c.loop-place.invariant c.in_ok-push.ensures.items c.in_ok-own.ensures
