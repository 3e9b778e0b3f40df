use Rattle.std.proofs.Common.{subst, List}
use Rattle.ps_atom.specs.declared.atom.Atom.{Atom}
use Rattle.ps_demand.specs.Pools.{ArePlaces}
use Rattle.ps_demand.proofs.Pooling.{numbered_more, each_of}
use Rattle.ps_demand.proofs.numbering.numbered.Goals as goal

pub places_of-requires-clause-there : goal.places_of-requires-clause-there
places_of-requires-clause-there c = rw c.as_slice.ensures.value (each_of c.args.pool.now c.args.sets.now c.loop-set.set-index c.set-item.result c.loop-set-test.true c.set-item.is c.requires.there)

pub loop-set-preserved : goal.loop-set-preserved
loop-set-preserved c =
    let p : ArePlaces c.args.pool.now c.set-item.result.items c.in_ok-places_of.field-0.items = subst (λ (xs : List Atom). ArePlaces c.args.pool.now xs c.in_ok-places_of.field-0.items) c.as_slice.ensures.value c.in_ok-places_of.ensures in
    numbered_more c.args.pool.now c.args.sets.now c.loop-set.set-index c.set-item.result c.set-item.result c.loop-set.numbers.items c.push.new.self.items c.in_ok-places_of.field-0 c.loop-set-test.true c.set-item.is p c.in_ok-push.ensures.items c.loop-set.invariant
