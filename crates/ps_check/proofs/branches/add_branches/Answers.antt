use Rattle.std.proofs.Common.{refl}
use Rattle.ps_check.proofs.Adding.{adds_all, adds_next, adds_none}
use Rattle.ps_check.proofs.branches.add_branches.Goals as goal

pub loop-atom-init : goal.loop-atom-init
loop-atom-init c = adds_none c.args.chosen.now c.args.next c.args.waiting.now.items

pub loop-atom-preserved : goal.loop-atom-preserved
loop-atom-preserved c =
    adds_next c.args.chosen.now c.args.set.now c.args.next c.loop-atom.atom-index c.atom-item.result (record { chosen = c.in_ok-more.more; next = c.args.next }) c.args.waiting.now.items c.loop-atom.waiting.items c.push.new.self.items
    c.loop-atom-test.true c.atom-item.is c.loop-atom.invariant c.in_ok-push.ensures.items c.in_ok-more.ensures refl

pub returns : goal.returns
returns c = adds_all c.args.chosen.now c.args.set.now c.args.next c.loop-atom.atom-index c.args.waiting.now.items c.loop-atom.waiting.items c.loop-atom-test.false c.loop-atom.invariant
