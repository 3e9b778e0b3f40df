-- Two threads that can be swapped.
use Rattle.std.specs.Prelude.{ℕ, Bool, true, false, not, ◌&&◌, ◌||◌, ◌==◌, List, [], ◌∷◌, if◌then◌else◌}
use Rattle.std.specs.List.{list_any, list_all}
use Rattle.ps_atom.specs.declared.atom.Atom.{Atom}
use Rattle.ps_cover.specs.inner.Tests.{is_listed, is_placed}

-- the other one of the two; any third thread stays
abbrev pub swapped : ℕ → ℕ → ℕ → ℕ
swapped one other thread = if thread == one then other else (if thread == other then one else thread)

abbrev pub place_swaps : List (ℕ × ℕ) → ℕ → ℕ → ℕ × ℕ → Bool
place_swaps at one other p = (swapped one other p.0 == p.0) || is_placed at (swapped one other p.0) p.1

-- the second threads are the first, swapped
abbrev pub maps_swapped : ℕ → ℕ → List ℕ → List ℕ → Bool
maps_swapped one other [] [] = true
maps_swapped one other (x ∷ xs) (y ∷ ys) = (swapped one other x == y) && maps_swapped one other xs ys
maps_swapped one other _ _ = false

abbrev pub swap_maps : ℕ → ℕ → Atom → Atom → Bool
swap_maps one other q r = (q.predicate == r.predicate) && maps_swapped one other q.threads r.threads

abbrev pub atom_swaps : List Atom → ℕ → ℕ → Atom → Bool
atom_swaps atoms one other q = not (is_listed q.threads one || is_listed q.threads other) || list_any (swap_maps one other q) atoms

-- what has the two threads stays with them swapped
abbrev pub swap_keeps : List (ℕ × ℕ) → List Atom → ℕ → ℕ → Bool
swap_keeps at atoms one other = list_all (place_swaps at one other) at && list_all (atom_swaps atoms one other) atoms
