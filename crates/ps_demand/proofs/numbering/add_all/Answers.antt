use Rattle.std.proofs.Common.{ap, ◌∙◌}
use Rattle.ps_demand.specs.Pools.{atoms_of}
use Rattle.ps_demand.proofs.Pooling.{adds_more, insert_atoms}
use Rattle.ps_demand.proofs.numbering.add_all.Goals as goal

pub loop-atom-preserved : goal.loop-atom-preserved
loop-atom-preserved c =
    adds_more c.args.atoms.now c.loop-atom.atom-index c.atom-item.result (atoms_of c.args.found.now.keys) (atoms_of c.loop-atom.found.keys) (atoms_of c.insert.new.self.keys) c.in_ok-copy.field-0 c.loop-atom-test.true
    (c.in_ok-copy.ensures ∙ c.atom-item.is) (ap atoms_of c.in_ok-insert.ensures.keys ∙ insert_atoms c.loop-atom.found.keys (record { atom = c.in_ok-copy.field-0 })) c.loop-atom.invariant
