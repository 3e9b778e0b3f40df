use Rattle.std.proofs.Common.{get_or}
use Rattle.std.proofs.lemmas.List.Elements.{Contains-get_or}
use Rattle.ps_step.proofs.LeastSets.{named_more}
use Rattle.ps_step.proofs.found.atoms_named.Goals as goal

pub bounds-pool-place : goal.bounds-pool-place
bounds-pool-place c = c.requires (get_or c.args.places.now c.loop-place.place-index 0) (Contains-get_or c.args.places.now c.loop-place.place-index 0 c.loop-place-test.true)

pub loop-place-preserved : goal.loop-place-preserved
loop-place-preserved c =
    named_more c.args.pool.now c.args.places.now c.loop-place.place-index c.index-pool-place.result c.in_ok-copy.field-0 c.loop-place.atoms.items c.push.new.self.items c.loop-place-test.true
    (c.requires (get_or c.args.places.now c.loop-place.place-index 0) (Contains-get_or c.args.places.now c.loop-place.place-index 0 c.loop-place-test.true))
    c.index-pool-place.is c.in_ok-copy.ensures c.in_ok-push.ensures.items c.loop-place.invariant
