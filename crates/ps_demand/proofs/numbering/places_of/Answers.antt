use Rattle.std.proofs.Common.{◌≡◌, ◌∙◌}
use Rattle.ps_demand.proofs.Pooling.{places_more}
use Rattle.ps_demand.proofs.numbering.places_of.Goals as goal

pub loop-atom-preserved : goal.loop-atom-preserved
loop-atom-preserved c =
    let same : c.in-Ok.place ≡ c.place_of.result = c.in-Ok.ensures.1 in
    places_more c.args.pool.now c.args.set.now c.loop-atom.atom-index c.atom-item.result c.loop-atom.places.items c.push.new.self.items c.in-Ok.place c.loop-atom-test.true
    (rw same c.place_of.ensures.within) (rw same c.place_of.ensures.is ∙ c.atom-item.is) c.in_ok-push-in-Ok.ensures.items c.loop-atom.invariant
