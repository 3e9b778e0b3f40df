use Rattle.ps_elim.proofs.Bits.{HasPlaces-vector, support_is}
use Rattle.ps_elim.proofs.support.Support.new.Goals as goal

pub invariant_of-result : goal.invariant_of-result
invariant_of-result c = rw c.places.ensures (HasPlaces-vector c.args.vector.now c.in_ok-words.field-0.items c.in_ok-words.ensures)

pub returns : goal.returns
returns c = rw c.places.ensures (support_is c.args.vector.now c.in_ok-words.field-0.items c.in_ok-words.ensures)
