-- Whether images take one configuration into another, as it computes.
use Rattle.std.specs.Prelude.{ℕ, Bool, true, false, not, ◌&&◌, ◌||◌, ◌==◌, List, [], ◌∷◌}
use Rattle.std.specs.List.{list_any, list_all}
use Rattle.ps_atom.specs.declared.atom.Atom.{Atom}
use Rattle.ps_config.specs.Configurations.{Configuration}
use Rattle.ps_config.specs.Sent.{sent}
use Rattle.ps_cover.specs.inner.Tests.{is_placed}

-- no other thread has the thread's image
abbrev pub is_apart : List ℕ → List ℕ → ℕ → Bool
is_apart threads to t = list_all (λ s. (s == t) || not (sent threads to s == sent threads to t)) threads

-- the image is at the place's location
abbrev pub is_placed_too : List (ℕ × ℕ) → List ℕ → List ℕ → ℕ × ℕ → Bool
is_placed_too at threads to p = is_placed at (sent threads to p.0) p.1

-- the second threads are the images of the first
abbrev pub are_sent : List ℕ → List ℕ → List ℕ → List ℕ → Bool
are_sent threads to [] [] = true
are_sent threads to (x ∷ xs) (y ∷ ys) = (sent threads to x == y) && are_sent threads to xs ys
are_sent threads to _ _ = false

abbrev pub goes_to : List ℕ → List ℕ → Atom → Atom → Bool
goes_to threads to q r = (q.predicate == r.predicate) && are_sent threads to q.threads r.threads

abbrev pub is_kept : List Atom → List ℕ → List ℕ → Atom → Bool
is_kept atoms threads to q = list_any (goes_to threads to q) atoms

-- the threads stay apart, and places and atoms are kept
abbrev pub takes_into : Configuration → Configuration → List ℕ → List ℕ → Bool
takes_into small large threads to =
    list_all (is_apart threads to) threads && (list_all (is_placed_too large.at threads to) small.at && list_all (is_kept large.atoms threads to) small.atoms)
