use Rattle.std.proofs.Common.{List, subst}
use Rattle.ps_atom.specs.declared.atom.Atom.{Atom}
use Rattle.ps_demand.specs.Pools.{atoms_of, Adds}
use Rattle.ps_demand.proofs.Pooling.{all_more, all_done}
use Rattle.ps_demand.proofs.numbering.pool_of.Goals as goal

pub loop-set-preserved : goal.loop-set-preserved
loop-set-preserved c =
    let a : Adds c.set-item.result.items (atoms_of c.loop-set.found.keys) (atoms_of c.add_all.new.found.keys) = subst (λ (xs : List Atom). Adds xs (atoms_of c.loop-set.found.keys) (atoms_of c.add_all.new.found.keys)) c.as_slice.ensures.value c.in_ok-add_all.ensures in
    all_more c.args.sets.now c.loop-set.set-index c.set-item.result (atoms_of c.loop-set.found.keys) (atoms_of c.add_all.new.found.keys) c.set-item.result c.loop-set-test.true c.set-item.is a c.loop-set.invariant

pub returns-clause-all : goal.returns-clause-all
returns-clause-all c = all_done c.args.sets.now c.loop-set.set-index (atoms_of c.loop-set.found.keys) c.in_ok-pool.pool.items c.loop-set-test.false c.in_ok-pool.ensures.all c.loop-set.invariant
