use Rattle.std.proofs.Common.{◌≡◌, ◌++◌, All, drop, map}
use Rattle.ps_saturate.specs.inner.Arranging.{atom_with}
use Rattle.ps_saturate.specs.inner.Trials.{IsChoice, atoms_of}
use Rattle.ps_saturate.proofs.choosing.push_choices.Given as goal

abbrev pub invariant-loop-of_atom : goal.invariant-loop-of_atom
invariant-loop-of_atom l = record {
  atoms : atoms_of l.list.items ++ map (λ v. atom_with l.number v.items) (drop l.of_atom-index l.of_atom-items)
      ≡ atoms_of l.initial.list.items ++ map (λ v. atom_with l.number v.items) l.of_atom-items;
  made : All (IsChoice l.setting l.predicates l.post) l.initial.list.items → All (IsChoice l.setting l.predicates l.post) l.list.items;
}
