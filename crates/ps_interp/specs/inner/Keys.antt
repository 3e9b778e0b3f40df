-- What listings look entries up by, and how they hash them.
use Rattle.std.specs.Prelude.{Bool, false, ◌&&◌, ◌++◌, nat_eq}
use Rattle.std.specs.List.{flat_map}
use Rattle.std.specs.Cmp.Lexicographic.{pointwise}
use Rattle.std.specs.Hash as fed
use Rattle.ps_atom.specs.declared.atom.Atom.{Atom}
use Rattle.ps_interp.specs.declared.entry_key.EntryKey.{EntryKey}
use Rattle.ps_triple.specs.declared.entry.Entry.{Entry}
use Rattle.ps_triple.specs.declared.entry.Entry.TheVariants.{Triple as OfTriple, Initial as OfInitial}
use Rattle.ps_triple.specs.declared.initial.Initial.{Initial}
use Rattle.ps_triple.specs.declared.triple.Triple.{Triple}

-- an entry as a key, and the entry of a key
abbrev pub key_of : Entry → EntryKey
key_of entry = record { entry = entry }

abbrev pub entry_of : EntryKey → Entry
entry_of key = key.entry

-- the two are one
abbrev pub atom_eq : Atom → Atom → Bool
atom_eq a b = nat_eq a.predicate b.predicate && pointwise nat_eq a.threads b.threads

abbrev pub triple_eq : Triple → Triple → Bool
triple_eq s t = ((nat_eq s.command t.command && atom_eq s.post t.post) && pointwise atom_eq s.pre t.pre) && pointwise nat_eq s.lambda t.lambda

abbrev pub initial_eq : Initial → Initial → Bool
initial_eq i j = nat_eq i.predicate j.predicate && pointwise nat_eq i.lambda j.lambda

abbrev pub entry_eq : Entry → Entry → Bool
entry_eq (OfTriple s) (OfTriple t) = triple_eq s t
entry_eq (OfInitial i) (OfInitial j) = initial_eq i j
entry_eq _ _ = false

abbrev pub key_eq : EntryKey → EntryKey → Bool
key_eq a b = entry_eq a.entry b.entry

-- what a hash is fed
abbrev pub atom_fed : Atom → fed.HashWrites
atom_fed a = fed.u32 a.predicate ++ fed.slice fed.u32 a.threads

abbrev pub entry_fed : Entry → fed.HashWrites
entry_fed (OfTriple t) = ((fed.u32 t.command ++ atom_fed t.post) ++ flat_map atom_fed t.pre) ++ fed.slice fed.u128 t.lambda
entry_fed (OfInitial i) = fed.u32 i.predicate ++ fed.slice fed.u128 i.lambda

abbrev pub key_fed : EntryKey → fed.HashWrites
key_fed a = entry_fed a.entry
