-- Atoms with the entries that may demand something for them, by any thread.
use Rattle.std.specs.Prelude.{ℕ, Bool, true, false, ◌&&◌, ◌==◌, List, [], ◌∷◌, map, Option, Some, None}
use Rattle.std.specs.List.{filter, flat_map, filter_map}
use denote.Ref.{Bor}
use Rattle.ps_atom.specs.declared.atom.Atom.{Atom}
use Rattle.ps_demand.specs.Demands.{demand}
use Rattle.ps_demand.specs.declared.candidate.Candidate.{Candidate}
use Rattle.ps_triple.specs.declared.entry.Entry.{Entry}
use Rattle.ps_triple.specs.declared.entry.Entry.TheVariants.{Triple as OfTriple, Initial as OfInitial}

-- the entry is a triple with the command whose post has the predicate
abbrev pub is_for : ℕ → ℕ → Entry → Bool
is_for command post (OfInitial i) = false
is_for command post (OfTriple t) = (t.command == command) && (t.post.predicate == post)

-- each atom with those of its predicate, atom by atom and entry by entry
abbrev pub candidates : List Entry → List Atom → ℕ → List (Atom × Entry)
candidates entries atoms command = flat_map (λ (atom : Atom). map (λ (e : Entry). (atom, e)) (filter (is_for command atom.predicate) entries)) atoms

-- what they demand where the thread runs the command
abbrev pub demanded_of : ℕ → ℕ → List (Atom × Entry) → List (List Atom)
demanded_of thread command pairs = filter_map (λ (p : Atom × Entry). demand thread command p.0 p.1) pairs

-- the atoms and the entries of a list of the code's
abbrev pub pairs_of : List Candidate → List (Atom × Entry)
pairs_of list = map (λ (c : Candidate). (c.atom.now, c.entry.now)) list

-- the only atom of a set
abbrev pub only_atom : List Atom → Option Atom
only_atom (q ∷ []) = Some q
only_atom set = None

-- a set of none or several atoms
abbrev pub has_no_only : List Atom → Bool
has_no_only (q ∷ []) = false
has_no_only set = true

-- the entries of a list of the code's
abbrev pub entries_of : List (Bor Entry) → List Entry
entries_of list = map (λ (e : Bor Entry). e.now) list
