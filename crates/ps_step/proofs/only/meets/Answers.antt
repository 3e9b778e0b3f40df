use Rattle.std.proofs.lemmas.Bool.{false≢true}
use Rattle.ps_step.proofs.Alone.{meets_none, none_push}
use Rattle.ps_step.proofs.only.meets.Goals as goal

pub loop-atom-preserved : goal.loop-atom-preserved
loop-atom-preserved c =
    none_push c.args.atoms.now c.args.set.now c.loop-atom.atom-index c.atom-item.result c.is_among.result c.loop-atom-test.true c.atom-item.is c.if-is_among.false c.is_among.ensures.1 c.loop-atom.invariant

pub returns : goal.returns
returns c = (λ yes. absurd (false≢true yes), λ met. absurd (meets_none c.args.atoms.now c.args.set.now c.loop-atom.atom-index c.loop-atom-test.false c.loop-atom.invariant met))
