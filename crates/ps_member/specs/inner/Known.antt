-- Tests on atoms that are given.
use Rattle.std.specs.Prelude.{ℕ, Bool, false, ◌==◌, List, [], ◌∷◌}
use Rattle.std.specs.List.{list_all, list_any}
use Rattle.std.specs.Ordering.{is_eq}
use Rattle.ps_atom.specs.Atoms.{atom_cmp}
use Rattle.ps_atom.specs.declared.atom.Atom.{Atom}
use Rattle.ps_demand.specs.Demands.{demands}
use Rattle.ps_triple.specs.declared.entry.Entry.{Entry}
use Rattle.ps_triple.specs.declared.entry.Entry.TheVariants.{Triple as OfTriple, Initial as OfInitial}

abbrev pub is_among : List Atom → Atom → Bool
is_among known q = list_any (λ p. is_eq (atom_cmp p q)) known

abbrev pub are_among : List Atom → List Atom → Bool
are_among known qs = list_all (is_among known) qs

-- some demand of the atom is among them
abbrev pub is_met : List Entry → ℕ → ℕ → List Atom → Atom → Bool
is_met entries thread command known q = list_any (are_among known) (demands entries (q ∷ []) thread command)

-- an initial entry of this predicate
abbrev pub is_initial_for : Entry → ℕ → Bool
is_initial_for (OfTriple t) predicate = false
is_initial_for (OfInitial i) predicate = i.predicate == predicate

-- the predicate of the atom has an initial entry
abbrev pub is_initial_in : List Entry → Atom → Bool
is_initial_in entries q = list_any (λ (e : Entry). is_initial_for e q.predicate) entries
