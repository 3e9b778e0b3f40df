-- What the atoms after a command demand of those before it, as lists.
use Rattle.std.specs.Prelude.{ℕ, Bool, true, false, not, ◌&&◌, ◌==◌, List, [], ◌∷◌, map, Contains, Option, Some, None, if◌then◌else◌}
use Rattle.std.specs.List.{flat_map, filter_map}
use Rattle.ps_atom.specs.Atoms.{renamed}
use Rattle.ps_atom.specs.declared.atom.Atom.{Atom}
use Rattle.ps_config.specs.Sent.{sent}
use Rattle.ps_triple.specs.declared.entry.Entry.{Entry}
use Rattle.ps_triple.specs.Tests.{HasNoFreeThread}
use Rattle.ps_triple.specs.declared.entry.Entry.TheVariants.{Triple as OfTriple, Initial as OfInitial}

-- both hold or neither
abbrev pub alike : Bool → Bool → Bool
alike true b = b
alike false b = not b

-- of two numbers and their images the numbers are one exactly where the images are
abbrev pub agrees : ℕ → ℕ → List ℕ → List ℕ → Bool
agrees s u [] _ = true
agrees s u (t ∷ ts) [] = true
agrees s u (t ∷ ts) (v ∷ vs) = alike (s == t) (u == v) && agrees s u ts vs

-- the lists are as long, and the numbers of the first go one to one to those of the second
abbrev pub is_renaming : List ℕ → List ℕ → Bool
is_renaming [] [] = true
is_renaming (s ∷ ss) (u ∷ us) = agrees s u ss us && is_renaming ss us
is_renaming _ _ = false

-- the pre of the triple, renamed so that its post is the atom and its command that of the thread, where there is such a renaming
abbrev pub demand : ℕ → ℕ → Atom → Entry → Option (List Atom)
demand thread command atom (OfInitial _) = None
demand thread command atom (OfTriple t) =
    if (t.command == command) && (t.post.predicate == atom.predicate) && is_renaming (0 ∷ t.post.threads) (thread ∷ atom.threads)
    then Some (map (renamed (sent (0 ∷ t.post.threads) (thread ∷ atom.threads))) t.pre)
    else None

-- all of them, atom by atom and entry by entry
abbrev pub demands : List Entry → List Atom → ℕ → ℕ → List (List Atom)
demands entries atoms thread command = flat_map (λ (atom : Atom). filter_map (demand thread command atom) entries) atoms

-- no triple has a free thread
abbrev pub AreTied : List Entry → Type 0
AreTied entries = (entry : Entry) → Contains entries entry → HasNoFreeThread entry
