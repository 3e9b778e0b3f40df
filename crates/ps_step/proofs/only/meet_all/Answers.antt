use Rattle.std.proofs.Common.{List, [], subst}
use Rattle.ps_atom.specs.declared.atom.Atom.{Atom}
use Rattle.ps_demand.specs.Hitting.{MeetsSet}
use Rattle.ps_step.proofs.Alone.{hits_all, hits_first, hits_push}
use Rattle.ps_step.proofs.only.meet_all.Goals as goal

pub loop-set-init : goal.loop-set-init
loop-set-init c = hits_first [] c.args.atoms.now

pub loop-set-preserved : goal.loop-set-preserved
loop-set-preserved c =
    hits_push c.args.sets.now c.loop-set.set-index c.set-item.result c.args.atoms.now c.loop-set-test.true c.set-item.is
    (subst (λ (xs : List Atom). MeetsSet c.args.atoms.now xs) c.as_slice.ensures.value (c.meets.ensures.0 c.if-not-meets.false)) c.loop-set.invariant

pub returns : goal.returns
returns c = λ yes. hits_all c.args.sets.now c.loop-set.set-index c.args.atoms.now c.loop-set-test.false c.loop-set.invariant
