-- Lists of atoms in ascending order.
use Rattle.std.specs.Prelude.{Bool, true, ◌&&◌, List, [], ◌∷◌}
use Rattle.std.specs.Ordering.{is_lt}
use Rattle.ps_atom.specs.Atoms.{atom_cmp}
use Rattle.ps_atom.specs.declared.atom.Atom.{Atom}

-- the atom comes before the first of the list, if there is one
abbrev pub atom_is_before_all : Atom → List Atom → Bool
atom_is_before_all q [] = true
atom_is_before_all q (r ∷ rs) = is_lt (atom_cmp q r)

-- the atoms strictly ascend
abbrev pub ascend : List Atom → Bool
ascend [] = true
ascend (q ∷ qs) = atom_is_before_all q qs && ascend qs
