-- Tests of one more image, as they compute.
use Rattle.std.specs.Prelude.{ℕ, Bool, not, ◌&&◌, ◌||◌, ◌==◌, List, [], ◌∷◌, ◌++◌}
use Rattle.std.specs.List.{list_any, list_all}
use Rattle.ps_atom.specs.declared.atom.Atom.{Atom}
use Rattle.ps_cover.specs.inner.Agreeing.{atom_agrees}

abbrev pub is_listed : List ℕ → ℕ → Bool
is_listed ns n = list_any (λ m. m == n) ns

abbrev pub is_placed : List (ℕ × ℕ) → ℕ → ℕ → Bool
is_placed at thread location = list_any (λ (p : ℕ × ℕ). (p.0 == thread) && (p.1 == location)) at

-- where the thread has this place, the image has its location
abbrev pub place_kept : List (ℕ × ℕ) → ℕ → ℕ → ℕ × ℕ → Bool
place_kept at thread image p = not (p.0 == thread) || is_placed at image p.1

-- where the atom names the thread, it agrees with one of the atoms
abbrev pub atom_kept : List Atom → ℕ → List ℕ → List ℕ → Atom → Bool
atom_kept atoms thread threads to q = not (is_listed q.threads thread) || list_any (atom_agrees threads to q) atoms

-- the image is new, and right for the thread's places and for its atoms
abbrev pub can_go : List (ℕ × ℕ) → List Atom → List (ℕ × ℕ) → List Atom → List ℕ → List ℕ → ℕ → ℕ → Bool
can_go small_at small_atoms at atoms threads to thread image =
    not (is_listed to image) && (list_all (place_kept at thread image) small_at && list_all (atom_kept atoms thread (threads ++ thread ∷ []) (to ++ image ∷ [])) small_atoms)
