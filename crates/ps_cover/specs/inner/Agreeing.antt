-- Which atoms an atom can still go to, where some threads have images.
use Rattle.std.specs.Prelude.{ℕ, Bool, true, false, ◌&&◌, ◌==◌, List, [], ◌∷◌, Option, Some, None, if◌then◌else◌}
use Rattle.ps_atom.specs.declared.atom.Atom.{Atom}

-- the image of the thread, where it has one
abbrev pub found : List ℕ → List ℕ → ℕ → Option ℕ
found [] _ t = None
found (s ∷ ss) [] t = None
found (s ∷ ss) (u ∷ us) t = if s == t then Some u else found ss us t

-- if there is an image, it is this thread
abbrev pub agrees_with : Option ℕ → ℕ → Bool
agrees_with None t = true
agrees_with (Some u) t = u == t

-- slot by slot, the second threads are the images of the first, where these have some
abbrev pub slots_agree : List ℕ → List ℕ → List ℕ → List ℕ → Bool
slots_agree threads to [] [] = true
slots_agree threads to (x ∷ xs) (y ∷ ys) = agrees_with (found threads to x) y && slots_agree threads to xs ys
slots_agree threads to _ _ = false

abbrev pub atom_agrees : List ℕ → List ℕ → Atom → Atom → Bool
atom_agrees threads to q r = (q.predicate == r.predicate) && slots_agree threads to q.threads r.threads
