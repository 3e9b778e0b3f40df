use Rattle.std.proofs.Common.{◌≡◌, ◌++◌, List, map, Contains}
use Rattle.ps_atom.specs.declared.atom.Atom.{Atom}
use Rattle.ps_config.specs.Forms.{IsConfig}
use Rattle.ps_demand.specs.Pools.{lists_of}
use Rattle.ps_step.specs.inner.Sets.{successor_of}
use Rattle.ps_step.proofs.step.push_sets.Given as goal

abbrev pub invariant-loop-atoms : goal.invariant-loop-atoms
invariant-loop-atoms l = record {
  all : l.successors.items ++ map (successor_of l.number l.thread l.at) (lists_of l.atoms-iterator.rest.items) ≡ l.fn.successors.items ++ map (successor_of l.number l.thread l.at) (lists_of l.fn.sets.items);
  fit : (set : List Atom) → Contains (lists_of l.atoms-iterator.rest.items) set → IsConfig (record { at = l.at; atoms = set });
}
