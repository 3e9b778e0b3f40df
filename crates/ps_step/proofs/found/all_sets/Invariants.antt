use Rattle.std.proofs.Common.{◌≡◌, [], ◌∷◌, ◌++◌, map}
use Rattle.ps_atom.specs.declared.atom.Atom.{Atom}
use Rattle.ps_demand.specs.Pools.{lists_of}
use Rattle.ps_step.proofs.found.all_sets.Given as goal

abbrev pub invariant-loop-atom : goal.invariant-loop-atom
invariant-loop-atom l = lists_of l.sets.items ++ map (λ (q : Atom). q ∷ []) l.atom-iterator.rest.items ≡ lists_of l.fn.others.items ++ map (λ (q : Atom). q ∷ []) l.fn.alone.items
