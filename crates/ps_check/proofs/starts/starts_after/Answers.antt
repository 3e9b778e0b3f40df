use Rattle.ps_check.proofs.Indexing.{after_more, after_none}
use Rattle.ps_check.proofs.starts.starts_after.Goals as goal

pub loop-number-init : goal.loop-number-init
loop-number-init c = after_none c.args.before.now c.in_ok-starts.starts.items c.args.shared c.args.place c.in_ok-starts.ensures.items

pub loop-number-preserved : goal.loop-number-preserved
loop-number-preserved c =
    after_more c.args.before.now c.loop-number.starts.items c.push.new.self.items c.args.shared c.args.place c.loop-number.number c.start_after-start.result c.loop-number.invariant c.in_ok-push.ensures.items c.start_after-start.ensures
