use Rattle.ps_config.proofs.Comparing.{shorter_less}
use Rattle.ps_config.proofs.order.compare_atoms.Goals as goal

pub returns-then-one-other : goal.returns-then-one-other
returns-then-one-other c = shorter_less c.args.one.now c.args.other.now c.loop-place.place c.loop-place.invariant c.loop-place-test.false c.loop-place.auto.place-end c.if-one-other.true
