-- What may stand after the last of a list.
use Rattle.std.specs.Prelude.{ℕ, Bool, true, nat_lt, Option, Some, None}
use Rattle.std.specs.Ordering.{is_lt}
use Rattle.ps_atom.specs.Atoms.{atom_cmp}
use Rattle.ps_atom.specs.declared.atom.Atom.{Atom}

-- the atom comes after this one, if there is one
abbrev pub is_atom_after : Option Atom → Atom → Bool
is_atom_after None q = true
is_atom_after (Some last) q = is_lt (atom_cmp last q)

-- the thread comes after that of this place, if there is one
abbrev pub is_thread_after : Option (ℕ × ℕ) → ℕ → Bool
is_thread_after None t = true
is_thread_after (Some last) t = nat_lt last.0 t
