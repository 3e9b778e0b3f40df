use Rattle.ps_step.proofs.Turns.{entries_more}
use Rattle.ps_step.proofs.expanded.entries_of.Goals as goal

pub loop-n-preserved : goal.loop-n-preserved
loop-n-preserved g c =
    entries_more (g.B.Shown.entries c.args.basis.now) c.loop-n.n c.entry.result.now c.in_ok-copy.field-0 c.loop-n.list.items c.push.new.self.items c.entry.ensures c.in_ok-copy.ensures c.in_ok-push.ensures.items c.loop-n.invariant
